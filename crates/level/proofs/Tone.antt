-- The strongest of places, taken one after the other: it is one of them, none is above it, and of equals it is the first; provided that no NaN stands
-- there. Its ends need no such premise. Assumes nothing.
use Prim.Native.Nat.{ℕ, zero, suc, ◌+◌, ◌-◌, ◌≤◌, ◌<◌}
use mathlib.Core.Bool.{Bool, true, false, not}
use mathlib.Core.Logic.{⊎_elim}
use mathlib.Core.Path.{◌≡◌, refl, sym, ap, ap₂, subst, ◌∙◌}
use native.Mathlib.Nat.{le_of_suc-le-suc, eq-or-lt_of_le}
use native.Mathlib.Numerals.{add-one}
use native.Mathlib.Omega.{arith}
use lib.Dec.{T}
use lib.Ieee.{Float, lt, le, is_nan}
use Rattle.util.specs.Choose.{choose}
use Rattle.util.proofs.Choose.{by-case}
use Rattle.frame.specs.Air.{bin_of, place_of}
use Rattle.frame.proofs.Air.{bin-below}
use Rattle.ieee.proofs.Order.{le_refl, le_trans, lt→le, not-lt→le, le-lt}
use Rattle.level.specs.Row.{stronger, strongest_to, strongest_of, Strongest, held_of}
use Rattle.level.specs.Rank.{there_of}
use Rattle.level.proofs.Five.{five}

-- ---- one place more
module _ (row : ℕ → Float) (place : ℕ → ℕ) where
  pub strongest-next : (n : ℕ) → strongest_to row place (n + 1) ≡ stronger row (strongest_to row place n) (place (n + 1))
  unfolding strongest_to
  strongest-next n =
      ap (strongest_to row place) (add-one n) ∙ ap (λ (m : ℕ). stronger row (strongest_to row place n) (place m)) (sym (add-one n))

  -- a loop's turn at v, which has come as far as v - 1
  pub strongest-turn : (v : ℕ) → 0 < v → strongest_to row place v ≡ stronger row (strongest_to row place (v - 1)) (place v)
  strongest-turn v h =
      let e : v - 1 + 1 ≡ v = omega arith in
      subst (λ (w : ℕ). strongest_to row place w ≡ stronger row (strongest_to row place (v - 1)) (place w)) e (strongest-next (v - 1))

  -- what every place has, the strongest has
  pub strongest-one : (P : ℕ → Type 0) → ((v : ℕ) → P (place v)) → (n : ℕ) → P (strongest_to row place n)
  unfolding strongest_to
  strongest-one P all zero = all 0
  strongest-one P all (suc n) =
      by-case P (lt (row (strongest_to row place n)) (row (place (suc n)))) (place (suc n)) (strongest_to row place n) (λ t. all (suc n))
      (λ t. strongest-one P all n)

  -- rows that are equal at the places have their strongest at the same
  pub strongest-to-same : (other : ℕ → Float) → ((v : ℕ) → row (place v) ≡ other (place v))
      → (n : ℕ) → strongest_to row place n ≡ strongest_to other place n
  unfolding strongest_to
  strongest-to-same other e zero = refl
  strongest-to-same other e (suc n) =
      let s = strongest_to row place n in
      let here : row s ≡ other s = strongest-one (λ (f : ℕ). row f ≡ other f) e n in
      ap₂ (λ (x y : Float). choose (lt x y) (place (suc n)) s) here (e (suc n))
      ∙ ap (λ (f : ℕ). stronger other f (place (suc n))) (strongest-to-same other e n)

-- ---- the strongest of the places 0 to n, of whatever places
pub record Best (row : ℕ → Float) (place : ℕ → ℕ) (n e : ℕ) : Type 0 where
  pub value : ℕ
  pub within : value ≤ n
  pub at : e ≡ place value
  pub most : (w : ℕ) → w ≤ n → T (le (row (place w)) (row e))
  pub first : (w : ℕ) → w < value → T (lt (row (place w)) (row e))

holds : {t : Bool} → t ≡ true → T t
holds e = subst T (sym e) tt

fails : {t : Bool} → t ≡ false → T (not t)
fails e = subst (λ (t : Bool). T (not t)) (sym e) tt

-- the last of the first n + 1, or one before
last-or-before : (P : ℕ → Type 0) (n : ℕ) → P (suc n) → ((w : ℕ) → w ≤ n → P w) → (w : ℕ) → w ≤ suc n → P w
last-or-before P n last before w h =
    ⊎_elim (λ (e : w ≡ suc n). subst P (sym e) last) (λ (l : w < suc n). before w (omega arith)) (eq-or-lt_of_le h)

module _ (row : ℕ → Float) (place : ℕ → ℕ) where
  one_place : T (not (is_nan (row (place 0)))) → Best row place 0 (place 0)
  one_place ok =
      record {
        value = 0;
        within = omega arith;
        at = refl;
        most = λ w h.
            let z : w ≡ 0 = omega arith in
            subst (λ (v : ℕ). T (le (row (place v)) (row (place 0)))) (sym z) (le_refl (row (place 0)) ok);
        first = λ w h. absurd (omega arith);
      }

  moved : (n e : ℕ) → T (not (is_nan (row (place (suc n))))) → Best row place n e → T (lt (row e) (row (place (suc n))))
      → Best row place (suc n) (place (suc n))
  moved n e ok s t =
      let f = row (place (suc n)) in
      record {
        value = suc n;
        within = omega arith;
        at = refl;
        most = last-or-before (λ w. T (le (row (place w)) f)) n (le_refl f ok)
            (λ w h. le_trans (row (place w)) (row e) f (s.most w h) (lt→le (row e) f t));
        first = λ w h. le-lt (row (place w)) (row e) f (s.most w (le_of_suc-le-suc h)) t;
      }

  stayed : (n e : ℕ) → T (not (is_nan (row e))) → T (not (is_nan (row (place (suc n))))) → Best row place n e
      → T (not (lt (row e) (row (place (suc n))))) → Best row place (suc n) e
  stayed n e ok next s t =
      record {
        value = s.value;
        within = omega arith;
        at = s.at;
        most = last-or-before (λ w. T (le (row (place w)) (row e))) n (not-lt→le (row e) (row (place (suc n))) ok next t) s.most;
        first = s.first;
      }

  pub strongest-to : (n : ℕ) → ((v : ℕ) → v ≤ n → T (not (is_nan (row (place v))))) → Best row place n (strongest_to row place n)
  unfolding strongest_to
  strongest-to zero ok = one_place (ok 0 (omega arith))
  strongest-to (suc n) ok =
      let before = strongest-to n (λ v h. ok v (omega arith)) in
      let e = strongest_to row place n in
      let here = ok (suc n) (omega arith) in
      let sound = subst (λ (f : ℕ). T (not (is_nan (row f)))) (sym before.at) (ok before.value (omega arith)) in
      by-case (λ (f : ℕ). Best row place (suc n) f) (lt (row e) (row (place (suc n)))) (place (suc n)) e
      (λ t. moved n e here before (holds t)) (λ t. stayed n e sound here before (fails t))

-- ---- of the 32 values
pub strongest-is : (bins h : ℕ) (row : ℕ → Float) → ((v : ℕ) → v < 32 → T (not (is_nan (row (place_of (bin_of bins h v))))))
    → Strongest bins h row (strongest_of bins h row)
unfolding strongest_of
strongest-is bins h row ok =
    let s = strongest-to row (λ v. place_of (bin_of bins h v)) 31 (λ v k. ok v (omega arith)) in
    record {
      value = s.value;
      within = omega arith;
      place = s.at;
      most = λ w k. s.most w (le_of_suc-le-suc k);
      first = s.first;
    }

-- the place lies in the row, with two bins on either side
pub strongest-ends : (bins h : ℕ) (row : ℕ → Float) → 0 < bins → (2 ≤ strongest_of bins h row) × (strongest_of bins h row ≤ bins + 1)
unfolding strongest_of
strongest-ends bins h row pos =
    strongest-one row (λ v. place_of (bin_of bins h v)) (λ (e : ℕ). (2 ≤ e) × (e ≤ bins + 1))
    (λ v. (omega arith, omega (arith, bin-below bins h v pos))) 31

-- so around it five bins are missing of every row that reaches two past the last bin
pub strongest-five : (bins h : ℕ) (row : ℕ → Float) (n : ℕ) → 0 < bins → bins + 4 ≤ n → there_of (held_of row (strongest_of bins h row)) n + 5 ≡ n
strongest-five bins h row n pos k =
    let ends = strongest-ends bins h row pos in
    five row (strongest_of bins h row) n ends.0 (omega arith)

-- rows that are equal up to the last bin's place have the same strongest
pub strongest-same : (bins h : ℕ) (row other : ℕ → Float) → 0 < bins → ((b : ℕ) → b ≤ bins + 1 → row b ≡ other b)
    → strongest_of bins h row ≡ strongest_of bins h other
unfolding strongest_of
strongest-same bins h row other pos e =
    strongest-to-same row (λ v. place_of (bin_of bins h v)) other (λ v. e (place_of (bin_of bins h v)) (omega (arith, bin-below bins h v pos))) 31
