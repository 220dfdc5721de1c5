-- THE LAW of the greatest number, over any floats, NaN too: sixteen lanes find the greatest (`lanes-peak`), and the lowest place that reaches it
-- is that of `highest`, which goes one by one (`first-reached`, `none-reached`). Assumes nothing.
use Prim.Native.Nat.{ℕ, zero, suc, ◌+◌, ◌*◌, ◌/◌, ◌%◌, ◌<◌}
use mathlib.Core.Bool.{Bool, true, false, not}
use mathlib.Core.List.{List}
use mathlib.Core.Logic.{⊎_elim}
use mathlib.Core.Path.{◌≡◌, refl, sym, ap, subst, ◌∙◌}
use native.Mathlib.Nat.{eq-or-lt_of_le, le_of_suc-le-suc, not-suc-le-zero}
use native.Mathlib.Numerals.{add-one}
use native.Mathlib.Omega.{arith}
use lib.Dec.{T, T_not, not_T}
use lib.Ieee.{Float, nan, inf, fin, lt, le, is_nan}
use lib.Ieee.Bits.{is_false}
use lib.ListN.{replicate, get_or-replicate}
use Rattle.util.specs.Choose.{choose}
use Rattle.util.proofs.Fill.{below_or_not}
use Rattle.ieee.proofs.Order.{not-lt→le, lt→le, le→not-lt, not-nan, le-lt, lt-le, le_trans}
use Rattle.trellis.specs.Numbers.{single}
use Rattle.trellis.specs.Scale.{highest}
use Rattle.trellis.proofs.Best.{highest-lt}
use Rattle.pass.specs.Areas.{table}
use Rattle.peak.specs.Peak.{greatest, lane, Lanes, Peak}

-- ---- what the tests say
is-not : {b : Bool} → b ≡ false → T (not b)
is-not e = rw e tt

-- nothing is above a NaN
above-nan : (x y : Float) → is_nan x ≡ true → T (not (lt x y))
unfolding lt is_nan
above-nan nan y e = tt
above-nan (inf s) y e = absurd (subst T (sym e) tt)
above-nan (fin s m d) y e = absurd (subst T (sym e) tt)

-- no number is above itself
not-above-itself : (x : Float) → T (not (lt x x))
not-above-itself x = not_T (lt x x) (λ t. T_not (lt x x) (le→not-lt x x (lt→le x x t)) t)

-- where y is above m, what is not above m is not above y
above-less : (m y x : Float) → T (lt m y) → T (not (lt m x)) → T (not (lt y x))
above-less m y x t h = not_T (lt y x) (λ l. T_not (lt m x) h (le-lt m y x (lt→le m y t) l))

-- where y is not above m, and both or none are NaN, what is not above y is not above m
above_more : (m y x : Float) → is_nan m ≡ is_nan y → T (not (lt m y)) → T (not (lt y x)) → T (not (lt m x))
above_more m y x e t h = go (is_nan m) refl
  where
    go : (b : Bool) → is_nan m ≡ b → T (not (lt m x))
    go true q = above-nan m x q
    go false q = not_T (lt m x) (λ l. T_not (lt y x) h (le-lt y m x (not-lt→le m y (is-not q) (is-not (sym e ∙ q)) t) l))

-- ---- the highest, one by one

-- h is the lowest place of the greatest of the n first of f
record Highest (f : ℕ → Float) (n h : ℕ) : Type 0 where
  nan-as-first : is_nan (f h) ≡ is_nan (f 0)
  none_above : (s : ℕ) → s < n → T (not (lt (f h) (f s)))
  lower : (s : ℕ) → s < h → T (not (le (f h) (f s)))

one_more : (f : ℕ → Float) (n h : ℕ) (t : Bool) → lt (f h) (f n) ≡ t → Highest f n h → Highest f (suc n) (choose t n h)
one_more f n h true e p =
    let up : T (lt (f h) (f n)) = rw e tt in
    let real = not-nan (f h) (f n) (lt→le (f h) (f n) up) in
    record {
      nan-as-first = is_false _ real.1 ∙ sym (is_false _ real.0) ∙ p.nan-as-first;
      none_above = λ s l.
          ⊎_elim (λ q. subst (λ (i : ℕ). T (not (lt (f n) (f i)))) (sym q) (not-above-itself (f n)))
          (λ q. above-less (f h) (f n) (f s) up (p.none_above s q)) (eq-or-lt_of_le (le_of_suc-le-suc l));
      lower = λ s l. not_T (le (f n) (f s)) (λ k. T_not (lt (f h) (f s)) (p.none_above s l) (lt-le (f h) (f n) (f s) up k));
    }
one_more f n h false e p =
    record {
      nan-as-first = p.nan-as-first;
      none_above = λ s l.
          ⊎_elim (λ q. subst (λ (i : ℕ). T (not (lt (f h) (f i)))) (sym q) (is-not e)) (p.none_above s) (eq-or-lt_of_le (le_of_suc-le-suc l));
      lower = p.lower;
    }

is-highest : (f : ℕ → Float) (n : ℕ) → Highest f n (highest single f n)
unfolding highest
is-highest f zero =
    record { nan-as-first = refl; none_above = λ s l. absurd (not-suc-le-zero l); lower = λ s l. absurd (not-suc-le-zero l) }
is-highest f (suc n) = one_more f n (highest single f n) (lt (f (highest single f n)) (f n)) refl (is-highest f n)

-- where the first is a NaN it stays
nan-stays : (f : ℕ → Float) (n : ℕ) → is_nan (f 0) ≡ true → highest single f n ≡ 0
unfolding highest
nan-stays f zero e = refl
nan-stays f (suc n) e =
    let ih = nan-stays f n e in
    let t : lt (f 0) (f n) ≡ false = is_false _ (above-nan (f 0) (f n) e) in
    cc

-- of one number it is the only one
pub greatest-one : (f : ℕ → Float) → f 0 ≡ greatest f 1
unfolding highest
greatest-one f = ap f (go (lt (f 0) (f 0)))
  where
    go : (t : Bool) → ◌≡◌ {A = ℕ} 0 (choose t 0 0)
    go true = refl
    go false = refl

-- one more by the test
pub greatest-more : (f : ℕ → Float) (n : ℕ) {x y : Float} → x ≡ greatest f n → y ≡ f n → choose (lt x y) y x ≡ greatest f (n + 1)
unfolding highest
greatest-more f n {x} {y} e d = rw add-one (rw e (rw d (go (highest single f n) (lt (f (highest single f n)) (f n)))))
  where
    go : (h : ℕ) (t : Bool) → choose t (f n) (f h) ≡ f (choose t n h)
    go h true = refl
    go h false = refl

-- ---- sixteen lanes

-- they start with the first number
pub lanes-begun : (f : ℕ → Float) → Lanes f 0 (replicate 16 (f 0))
lanes-begun f = record { size = refl; at = λ k l. get_or-replicate 16 k (f 0) nan l ∙ greatest-one (lane f k) }

-- each lane has one of the places met
lane_place : (f : ℕ → Float) (i k q : ℕ) → 0 < i → k < 16 → q < i + 1 → (p : ℕ) × (p < i * 16) × (lane f k q ≡ f p)
lane_place f i k zero some l h = (0, omega arith, refl)
lane_place f i k (suc q) some l h = (q * 16 + k, omega arith, refl)

module _ {f : ℕ → Float} {i : ℕ} {lanes : List Float} (at : Lanes f i lanes) where
  lane-nan : (k : ℕ) → k < 16 → is_nan (table lanes k) ≡ is_nan (f 0)
  lane-nan k l = ap is_nan (at.at k l) ∙ (is-highest (lane f k) (i + 1)).nan-as-first

  lane_above : (k q : ℕ) → k < 16 → q < i → T (not (lt (table lanes k) (f (q * 16 + k))))
  lane_above k q l h = rw (at.at k l) ((is-highest (lane f k) (i + 1)).none_above (suc q) (omega arith))

  -- a round more of a lane
  pub lane-more : (k : ℕ) → k < 16 → choose (lt (table lanes k) (f (i * 16 + k))) (f (i * 16 + k)) (table lanes k) ≡ greatest (lane f k) (i + 1 + 1)
  lane-more k l = greatest-more (lane f k) (i + 1) (at.at k l) (rw add-one refl)

  -- the greatest of the lanes is the greatest of all
  pub lanes-peak : 0 < i → Peak f (i * 16) (greatest (table lanes) 16)
  lanes-peak some =
      let h = highest single (table lanes) 16 in
      let l : h < 16 = highest-lt single (table lanes) 16 (omega arith) in
      let (p, below, has) = lane_place f i h (highest single (lane f h) (i + 1)) some l (highest-lt single (lane f h) (i + 1) (omega arith)) in
      record {
        place = p;
        inside = below;
        has = at.at h l ∙ has;
        none_above = λ s b.
            let k : s % 16 < 16 = omega arith in
            let e : s / 16 * 16 + s % 16 ≡ s = omega arith in
            above_more (table lanes h) (table lanes (s % 16)) (f s) (lane-nan h l ∙ sym (lane-nan (s % 16) k))
            ((is-highest (table lanes) 16).none_above (s % 16) k)
            (subst (λ (j : ℕ). T (not (lt (table lanes (s % 16)) (f j)))) e (lane_above (s % 16) (s / 16) k (omega arith)));
        nan = lane-nan h l;
      }

-- ---- the lowest place that reaches the greatest

module _ {f : ℕ → Float} {n : ℕ} {m : Float} (p : Peak f n m) (some : 0 < n) where
  -- the highest reaches it, where it is no NaN, and it the highest
  reaches : is_nan m ≡ false → T (le m (f (highest single f n))) × T (le (f (highest single f n)) m)
  reaches e =
      let h = highest single f n in
      let top = is-highest f n in
      let real : T (not (is_nan (f h))) = is-not (top.nan-as-first ∙ sym p.nan ∙ e) in (
        not-lt→le (f h) m real (is-not e) (rw p.has (top.none_above p.place p.inside)),
        not-lt→le m (f h) (is-not e) real (p.none_above h (highest-lt single f n some)),
      )

  -- so the first place that reaches it is the highest
  pub first-reached : (s : ℕ) → s < n → le m (f s) ≡ true → ((t : ℕ) → t < s → le m (f t) ≡ false) → s ≡ highest single f n
  first-reached s l e before =
      let h = highest single f n in
      let yes : T (le m (f s)) = rw e tt in
      let (up, down) = reaches (is_false _ (not-nan m (f s) yes).0) in
      ⊎_elim
      (λ q. absurd (T_not (le (f h) (f s)) ((is-highest f n).lower s q) (le_trans (f h) m (f s) down yes)))
      (λ q. ⊎_elim sym (λ r. absurd (T_not (le m (f h)) (is-not (before h r)) up)) (eq-or-lt_of_le q))
      (below_or_not s h)

  -- and where none does, the first is a NaN, and the highest
  pub none-reached : ((t : ℕ) → t < n → le m (f t) ≡ false) → 0 ≡ highest single f n
  none-reached never = go (is_nan m) refl
    where
      go : (b : Bool) → is_nan m ≡ b → 0 ≡ highest single f n
      go true q = sym (nan-stays f n (sym p.nan ∙ q))
      go false q = absurd (T_not (le m (f (highest single f n))) (is-not (never (highest single f n) (highest-lt single f n some))) (reaches q).0)
