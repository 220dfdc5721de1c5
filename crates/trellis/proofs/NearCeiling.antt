-- HOW FAR ANY WORD CAN BE ABOVE THE CEILING, and the answered word's score from its exact one, for terms that are not whole. No start score of a pass
-- is above 0.0, and one is not below it. So no end score is above what some walk scores from 0.0, and that of a closed word's state p is not below
-- what the word scores from another state, which is not 141 · 2^a below what it scores from p (Apart). Where p starts lower than -160 · 2^a it so
-- gains more than the word's score, and the word is not the one traced back from p. Else the word's walk, counted on from p's start score, stays within
-- 480 · 2^a; it is at most p's end score, or that score where it is the one traced back; and each step loses at most half a unit in the last place.
-- Assumes nothing.
use Prim.Native.Nat.{ℕ, zero, suc, ◌+◌, ◌-◌, ◌*◌, ◌^◌, ◌≤◌, ◌<◌}
use native.Mathlib.Nat.{le_trans, le_of_eq, mul_comm, mul-le-mul_right}
use mathlib.Core.Path.{◌≡◌, refl, sym, ap, ◌∙◌, subst, subst₂}
use mathlib.Core.Bool.{false}
use mathlib.Core.List.{List}
use native.Mathlib.Omega.{arith}
use lib.Dec.{T, leb→le, eqb→eq, lit<, lit≤}
use lib.ListN.{length}
use lib.IntN.{ℤ, pos, negsuc, neg_ℤ, nat_abs, ◌+ℤ◌, ◌-ℤ◌, +ℤ_assoc, +ℤ_comm, +ℤ_idl, +ℤ_idr, +ℤ-neg_ℤ_cancel, -ℤ-+ℤ_cancel}
use lib.Signed.{◌≤ℤ◌}
use lib.Ieee.{Float, binary32, le}
use Rattle.ieee.specs.Whole.{plus_zero}
use Rattle.ieee.specs.Size.{Upto}
use Rattle.ieee.specs.Units.{Units, Near}
use Rattle.ieee.proofs.Integers.{abs-add, abs-sub, by-test}
use Rattle.ieee.proofs.Rounds.{sub-nonpos, sub-nonneg}
use Rattle.ieee.proofs.Sizes.{upto_zero, upto-wider, upto-within, sub-upto}
use Rattle.ieee.proofs.Units.{in_units, units-zero, units-fits, units-size, upto-units, sub-near, le-units}
use Rattle.frame.specs.Format.{header_bits}
use Rattle.frame.proofs.Air.{header-most}
use Rattle.conv.specs.Encoder.{made, bit}
use Rattle.conv.proofs.Closed.{made-below, ends-made, closed}
use Rattle.model.specs.Range.{some_out}
use Rattle.trellis.specs.Trellis.{Trellis}
use Rattle.trellis.specs.Search.{unclosed, scores, final, end_state, start_of, word_of, closes, gain_of, top_of, begin, search}
use Rattle.trellis.specs.Numbers.{single, whole}
use Rattle.trellis.specs.Terms.{header, lent, document_search, UnitTerms}
use Rattle.trellis.specs.Demand as Demand
use Rattle.trellis.specs.Demand.{walk, lost, NoneAbove}
use Rattle.trellis.proofs.Paths.{bit-lt, trace-start-lt, trace-state}
use Rattle.trellis.proofs.Best.{Ranked, along, attained, scores-ok, no-walk-above, along-le, highest-le, highest-lt}
use Rattle.trellis.proofs.Handed as Handed
use Rattle.trellis.proofs.Handed.{along-from, search-each}
use Rattle.trellis.proofs.Integers.{group, ≤ℤ-trans, ≤ℤ-add, ≤ℤ-apart, ≤ℤ-less}
use Rattle.trellis.proofs.Ceiling.{ceiling-each}
use Rattle.trellis.proofs.Demand.{header-long}
use Rattle.trellis.proofs.AnyTerms.{Earned, ranked}
use Rattle.trellis.proofs.Answered.{pass-held}
use Rattle.trellis.proofs.Rounding.{up_by, walk-upto, along-near, walk-near}
use Rattle.trellis.proofs.Apart.{apart, walks-apart, apart-size}

-- What x adds to s is at most b but for c, and b less s at most t but for d: so x is at most t but for both.
above-by : (x s b t c d : ℤ) (m n q : ℕ) → (s +ℤ x +ℤ c) ≤ℤ b → (b -ℤ s +ℤ d) ≤ℤ t → nat_abs c ≤ m → nat_abs d ≤ n → m + n ≤ q → x ≤ℤ (t +ℤ pos q)
above-by x s b t c d m n q h k i j l =
    let both : (x +ℤ c +ℤ d) ≤ℤ t = ≤ℤ-trans (≤ℤ-add d (≤ℤ-less s b (x +ℤ c) (subst (λ (z : ℤ). z ≤ℤ b) (+ℤ_assoc s x c) h))) k in
    let zero_more : q + 0 ≡ q = omega arith in
    subst (λ (i : ℕ). x ≤ℤ (t +ℤ pos i)) zero_more
    (≤ℤ-apart x t (c +ℤ d) (pos 0) q 0 (subst₂ ◌≤ℤ◌ (+ℤ_assoc x c d) (sym (+ℤ_idr t)) both) (le_trans (abs-add c d) (omega arith)) (omega arith))

-- A number that is not above 0 is its size below it.
not-positive : (z : ℤ) → z ≤ℤ pos 0 → z ≡ neg_ℤ (pos (nat_abs z))
not-positive (pos zero) h = refl
not-positive (pos (suc n)) h = let none = leb→le (suc n) 0 h.le in absurd (omega (arith, none))
not-positive (negsuc n) h = refl

-- b is at most what x adds to s, but for c, and x at most d above b: so s is not further below 0 than both.
not-so-low : (x s b c : ℤ) (m d q : ℕ) → s ≡ neg_ℤ (pos m) → b ≤ℤ (s +ℤ x +ℤ c) → x ≤ℤ (b +ℤ pos d) → nat_abs c ≤ q → m ≤ q + d
not-so-low x s b c m d q low h k l =
    let y = c +ℤ pos d in
    let above : x ≤ℤ (x +ℤ (s +ℤ y)) =
    subst (λ (v : ℤ). x ≤ℤ v)
    (+ℤ_assoc (s +ℤ x) c (pos d) ∙ ap (λ (v : ℤ). v +ℤ y) (+ℤ_comm s x) ∙ +ℤ_assoc x s y) (≤ℤ-trans k (≤ℤ-add (pos d) h)) in
    let none-less : pos 0 ≤ℤ (s +ℤ y) =
    subst (λ (v : ℤ). pos 0 ≤ℤ v) (group.add-sub x (s +ℤ y))
    (≤ℤ-less x (x +ℤ (s +ℤ y)) (pos 0) (subst (λ (v : ℤ). v ≤ℤ (x +ℤ (s +ℤ y))) (sym (+ℤ_idr x)) above)) in
    let up : pos m ≤ℤ y =
    subst₂ ◌≤ℤ◌ (+ℤ_idl (pos m))
    (ap (λ (v : ℤ). v +ℤ pos m) (+ℤ_comm s y ∙ ap (λ (v : ℤ). y +ℤ v) low) ∙ -ℤ-+ℤ_cancel y (pos m)) (≤ℤ-add (pos m) none-less) in
    le_trans (sized y up) (le_trans (abs-add c (pos d)) (omega arith))
  where
    sized : (y : ℤ) → pos m ≤ℤ y → m ≤ nat_abs y
    sized (pos n) h = leb→le m n h.le
    sized (negsuc n) h = absurd h.le

module _ (mode kind a : ℕ) (terms : List Float) (ints : ℕ → ℤ) (all : length terms ≡ 260 * header_bits kind) (h : UnitTerms a terms ints) (few : a ≤ 20)
    (in-range : some_out terms ≡ false) where
  abbrev X : Trellis Float
  X = header single mode kind (lent terms)

  abbrev n : ℕ
  n = header_bits kind

  -- what a walk scores from 0.0
  abbrev scored : ℕ → ℕ → Float
  scored p w = walk single mode kind (lent terms) p w

  abbrev L : Ranked X (λ x y. T (le x y)) Earned
  L = ranked mode kind terms all in-range

  -- ---- pass k: its start scores, its end scores, its end state

  abbrev start : ℕ → ℕ → Float
  start k = begin X k

  abbrev ends : ℕ → ℕ → Float
  ends k = final X (begin X k)

  abbrev end : ℕ → ℕ
  end k = end_state X (begin X k)

  start-ok : (k : ℕ) → k ≤ 2 → (s : ℕ) → s < 16384 → Earned 0 (start k s)
  unfolding scores
  start-ok k hk s hs = let held = (pass-held mode kind terms all in-range k hk).scores 0 s (omega arith) hs in record { held = held.fits; upto = held.upto }

  end-ok : (k : ℕ) → k ≤ 2 → (s : ℕ) → s < 16384 → Earned n (ends k s)
  end-ok k hk s hs = scores-ok X L (start k) (start-ok k hk) n (omega arith) hs

  gain-ok : (k : ℕ) → k ≤ 2 → (s : ℕ) → s < 16384 → Earned 0 (gain_of X (start k) s)
  gain-ok k hk s hs = let held = (pass-held mode kind terms all in-range k hk).gains s hs in record { held = held.fits; upto = held.upto }

  end_lt : (k : ℕ) → end k < 16384
  end_lt k = Handed.end_lt X refl (lit< tt) (start k)

  end-most : (k : ℕ) → k ≤ 2 → (s : ℕ) → s < 16384 → T (le (ends k s) (ends k (end k)))
  end-most k hk s hs = highest-le L (ends k) 16384 (record { at = end-ok k hk }) hs

  -- no start score is above 0.0,
  start-most : (k : ℕ) → k ≤ 2 → (s : ℕ) → s < 16384 → T (le (start k s) plus_zero)
  unfolding begin le
  start-most zero hk s hs = tt
  start-most (suc k) hk s hs =
      let hk' : k ≤ 2 = omega arith in
      sub-nonpos binary32 _ _ (end-ok k hk' s hs).upto.finite (end-ok k hk' (end k) (end_lt k)).upto.finite (end-most k hk' s hs)

  -- and one is not below it: that of the end state of the pass before
  start-least : (k : ℕ) → k ≤ 2 → (t : ℕ) × (t < 16384) × T (le plus_zero (start k t))
  unfolding begin le
  start-least zero hk = (0, lit< tt, tt)
  start-least (suc k) hk =
      let hk' : k ≤ 2 = omega arith in
      let F = (end-ok k hk' (end k) (end_lt k)).upto.finite in
      (end k, end_lt k, sub-nonneg binary32 _ _ F F (end-most k hk' (end k) (end_lt k)))

  -- so no end score is above what the walk scores that is traced back from it
  ends-most : (k : ℕ) → k ≤ 2 → (s : ℕ) → s < 16384 → T (le (ends k s) (scored (start_of X (start k) s) (word_of X (start k) s)))
  ends-most k hk s hs =
      let q = start_of X (start k) s in
      let w = word_of X (start k) s in
      let q-lt = trace-start-lt refl _ n hs in
      subst (λ (x : Float). T (le x (scored q w))) (attained X refl (start k) n hs)
      (along-le X L (start-ok k hk q q-lt) L.nil-ok (start-most k hk q q-lt) q-lt w n (omega arith))

  top-units : (k : ℕ) → k ≤ 2 → Units 149 (top_of X (start k)) (in_units 149 (top_of X (start k)))
  top-units k hk = let top = gain-ok k hk _ (highest-lt single (gain_of X (start k)) 16384 (lit< tt)) in units-fits binary32 _ top.held top.upto.finite

  -- ---- what is lost

  -- within 2^(a+g), so that many units, each sum loses at most 2^(a-25+g)
  in-units : (c g : ℕ) → c + 320 ≤ 2 ^ g → (c + 320) * 2 ^ (a + 149) ≤ 2 ^ (24 + suc (a + 124 + g))
  in-units c g room =
      le_trans (mul-le-mul_right (2 ^ (a + 149)) room)
      (le_of_eq (mul_comm (2 ^ g) (2 ^ (a + 149)) ∙ sym (up_by (a + 149) (24 + suc (a + 124 + g)) g (omega arith))))

  -- in a walk within 512 · 2^a and its gain, at most 2^(a-9); in one within 1,024 · 2^a, less than 2^a
  all-lost : n * (5 * (0 + 2 ^ (a + 127)) + 2 ^ (a + 124 + 9)) + 2 ^ (a + 124 + 9) ≤ lost a
  all-lost =
      by n (2 ^ (a + 127)) (2 ^ (a + 124 + 9)) (lost a) (header-most kind) (up_by (a + 127) (a + 124 + 9) 6 (omega arith))
      (up_by (a + 127) (a + 149 - 9) 13 (omega arith))
    where
      by : (n u v q : ℕ) → n ≤ 64 → v ≡ u * 64 → q ≡ u * 8192 → n * (5 * (0 + u) + v) + v ≤ q
      by n u v q l d e = omega (arith, mul-le-mul_right (5 * (0 + u) + v) l)

  coarse : (m : ℕ) → m ≤ 64 → m * (5 * (0 + 2 ^ (a + 127)) + 2 ^ (a + 124 + 10)) ≤ 2 ^ (a + 149)
  coarse m l =
      by m (2 ^ (a + 127)) (2 ^ (a + 124 + 10)) (2 ^ (a + 149)) l (up_by (a + 127) (a + 124 + 10) 7 (omega arith))
      (up_by (a + 127) (a + 149) 22 (omega arith))
    where
      by : (n u v q : ℕ) → n ≤ 64 → v ≡ u * 128 → q ≡ u * 4194304 → n * (5 * (0 + u) + v) ≤ q
      by n u v q l d e = omega (arith, mul-le-mul_right (5 * (0 + u) + v) l)

  -- ---- the word w in pass k: its walk starts and ends in the state p that is made of its last 14 bits

  module _ (w : ℕ) where
    abbrev p : ℕ
    p = made (bit w) n 14

    p-lt : p < 16384
    p-lt = made-below (bit w) (bit-lt w) n 14

    -- p's end score is not below what the same word's walk scores from the state that starts at 0.0
    ends-least : (k : ℕ) (hk : k ≤ 2) → T (le (scored (start-least k hk).0 w) (ends k p))
    ends-least k hk =
        let (t, t-lt, up) = start-least k hk in
        subst (λ (s : ℕ). T (le (scored t w) (ends k s))) (ends-made (bit w) (bit-lt w) 14 t n t-lt (header-long kind))
        (L.le_trans (along-le X L L.nil-ok (start-ok k hk t t-lt) up t-lt w n (omega arith))
        (no-walk-above X L (start k) (start-ok k hk) t-lt w n (omega arith)))

    -- so from there on end scores are no larger than a walk's score,
    ends-upto : (k : ℕ) → k ≤ 2 → (s : ℕ) → s < 16384 → T (le (ends k p) (ends k s)) → Upto 320 a (ends k s)
    ends-upto k hk s hs above =
        upto-within (walk-upto mode kind a terms ints all h few _ w) (walk-upto mode kind a terms ints all h few _ _)
        (record { from = L.le_trans (ends-least k hk) above; to = ends-most k hk s hs })

    end-upto : (k : ℕ) → k ≤ 2 → Upto 320 a (ends k p)
    end-upto k hk = ends-upto k hk p p-lt (L.le_refl (end-ok k hk p p-lt))

    -- and p's start score no larger than two
    start-upto : (k : ℕ) → k ≤ 2 → Upto 640 a (start k p)
    unfolding begin
    start-upto zero hk = upto-wider 640 a (upto_zero {k = a}) (omega arith)
    start-upto (suc k) hk =
        let hk' : k ≤ 2 = omega arith in
        sub-upto binary32 (end-upto k hk') (ends-upto k hk' (end k) (end_lt k) (end-most k hk' p p-lt)) (lit< tt) (omega arith)

    -- ---- in units of 2^-149, of which `size` are 2^a

    module _ (k : ℕ) (hk : k ≤ 2) where
      -- p's start score, its end score, and what w's walk scores exactly
      abbrev z : ℤ
      z = in_units 149 (start k p)

      abbrev e : ℤ
      e = in_units 149 (ends k p)

      abbrev exactly : ℤ
      exactly = Demand.closed whole mode kind ints w

      start-units : Units 149 (start k p) z
      start-units = units-fits binary32 _ (start-ok k hk p p-lt).held (start-ok k hk p p-lt).upto.finite

      end-units : Units 149 (ends k p) e
      end-units = units-fits binary32 _ (end-ok k hk p p-lt).held (end-ok k hk p p-lt).upto.finite

      -- Where p's start score is within c · 2^a, and c + 320 at most 2^g, sums and differences lose at most 2^(a-25+g) each. The walk counted on from it,
      chain-near : (c g : ℕ) → Upto c a (start k p) → c ≤ 640 → c + 320 ≤ 2 ^ g
          → Near 149 (n * (5 * (0 + 2 ^ (a + 127)) + 2 ^ (a + 124 + g))) (along X (start k p) p w n) (z +ℤ exactly)
      chain-near c g u few-start room =
          subst (Near 149 (n * (5 * (0 + 2 ^ (a + 127)) + 2 ^ (a + 124 + g))) (along X (start k p) p w n))
          (along-from (header whole mode kind ints) group z p w n)
          (along-near mode kind a terms ints all h few c (a + 124 + g) u start-units few-start (in-units c g room) p w)

      -- and p's gain
      gain-near : (c g : ℕ) {y : ℤ} → Upto c a (start k p) → c ≤ 640 → c + 320 ≤ 2 ^ g → Units 149 (ends k p) y
          → Near 149 (2 ^ (a + 124 + g)) (gain_of X (start k) p) (y -ℤ z)
      gain-near c g {y} u few-start room end =
          sub-near binary32 (a + 124 + g) end start-units
          (le_trans (abs-sub y z) (omega (arith, units-size (end-upto k hk) end, units-size u start-units, in-units c g room)))
          (sub-upto binary32 (end-upto k hk) u (omega arith) (omega arith)).finite

      -- ---- w's walk from the state t that starts at 0.0

      abbrev t : ℕ
      t = (start-least k hk).0

      t-near : Near 149 (lost a) (scored t w) (walk whole mode kind ints t w)
      t-near = walk-near mode kind a terms ints all h few t w

      -- how much more the walk from p scores
      abbrev more : ℤ
      more = apart mode kind a terms ints all h w p t p-lt (start-least k hk).1

      end-least : (exactly +ℤ t-near.off) ≤ℤ (e +ℤ more)
      end-least =
          let from-t = walk whole mode kind ints t w in
          subst (λ (x : ℤ). x ≤ℤ (e +ℤ more))
          (+ℤ_assoc from-t t-near.off more ∙ ap (λ (x : ℤ). from-t +ℤ x) (+ℤ_comm t-near.off more) ∙ sym (+ℤ_assoc from-t more t-near.off)
          ∙ ap (λ (x : ℤ). x +ℤ t-near.off) (sym (walks-apart mode kind a terms ints all h w p t p-lt (start-least k hk).1)))
          (≤ℤ-add more (le-units t-near.is end-units (ends-least k hk)))

      -- so w's exact score is above p's end score by less than 141 · 2^a
      end-within : (m : ℕ) → 141 * 2 ^ (a + 149) ≤ m → exactly ≤ℤ (e +ℤ pos m)
      end-within m l =
          let one : 2 ^ (a + 149) ≡ lost a * 512 = up_by (a + 149 - 9) (a + 149) 9 (omega arith) in
          let all-of-it : lost a + (m - lost a) ≡ m = omega arith in
          subst (λ (i : ℕ). exactly ≤ℤ (e +ℤ pos i)) all-of-it
          (≤ℤ-apart exactly e t-near.off more (lost a) (m - lost a) end-least t-near.small
          (omega (arith, apart-size mode kind a terms ints all h w p t p-lt (start-least k hk).1)))

      below-zero : z ≡ neg_ℤ (pos (nat_abs z))
      below-zero = not-positive z (le-units start-units units-zero (start-most k hk p p-lt))

      -- the walk counted on from p's start score is at most p's end score
      chain-most : T (le (along X (start k p) p w n) (ends k p))
      chain-most =
          subst (λ (s : ℕ). T (le (along X (start k p) p w n) (ends k s))) (closed (bit w) (bit-lt w) 14 n (header-long kind))
          (no-walk-above X L (start k) (start-ok k hk) p-lt w n (omega arith))

      -- ---- no closed word's exact score is above the pass's top by more than rounding loses in a word's score

      gain-most : T (le (gain_of X (start k) p) (top_of X (start k)))
      gain-most = highest-le L (gain_of X (start k)) 16384 (record { at = gain-ok k hk }) p-lt

      word-near : exactly ≤ℤ (in_units 149 (top_of X (start k)) +ℤ pos (lost a))
      word-near = by-test (160 * 2 ^ (a + 149)) (nat_abs z) from_low from-high
        where
          -- from a start score below -160 · 2^a, p gains more than w can score
          from_low : 160 * 2 ^ (a + 149) < nat_abs z → exactly ≤ℤ (in_units 149 (top_of X (start k)) +ℤ pos (lost a))
          from_low l =
              let gain = gain-near 640 10 (start-upto k hk) (omega arith) (lit≤ tt) end-units in
              let under : (z +ℤ exactly +ℤ pos 0) ≤ℤ e =
              subst₂ ◌≤ℤ◌ (+ℤ_comm exactly z ∙ sym (+ℤ_idr (z +ℤ exactly)))
              (ap (λ (x : ℤ). e +ℤ pos (nat_abs z) +ℤ x) below-zero ∙ +ℤ-neg_ℤ_cancel e (pos (nat_abs z))) (≤ℤ-add z (end-within (nat_abs z) (omega arith))) in
              above-by exactly z e (in_units 149 (top_of X (start k))) (pos 0) gain.off 0 (2 ^ (a + 124 + 10)) (lost a) under
              (le-units gain.is (top-units k hk) gain-most) (omega arith) gain.small
              (omega (arith, up_by (a + 124 + 10) (a + 149 - 9) 6 (omega arith)))

          from-high : nat_abs z ≤ 160 * 2 ^ (a + 149) → exactly ≤ℤ (in_units 149 (top_of X (start k)) +ℤ pos (lost a))
          from-high l =
              let u = upto-units 160 a start-units l in
              let chain = chain-near 160 9 u (omega arith) (lit≤ tt) in
              let gain = gain-near 160 9 u (omega arith) (lit≤ tt) end-units in
              above-by exactly z e (in_units 149 (top_of X (start k))) chain.off gain.off _ (2 ^ (a + 124 + 9)) (lost a)
              (le-units chain.is end-units chain-most) (le-units gain.is (top-units k hk) gain-most) chain.small gain.small all-lost

      -- ---- where w is the word traced back from p, p's gain is off from its exact score by no more

      module _ (traced : along X (start k p) p w n ≡ ends k p) where
        -- then p cannot start that low, since w's walk from t would have come before
        high-start : nat_abs z ≤ 160 * 2 ^ (a + 149)
        high-start = by-test (160 * 2 ^ (a + 149)) (nat_abs z) (λ l. absurd (not_low l)) (λ l. l)
          where
            not_low : 160 * 2 ^ (a + 149) < nat_abs z → ⊥
            not_low l =
                let chain = chain-near 640 10 (start-upto k hk) (omega arith) (lit≤ tt) in
                let under : e ≤ℤ (z +ℤ exactly +ℤ chain.off) =
                le-units end-units chain.is (subst (λ (x : Float). T (le (ends k p) x)) (sym traced) (L.le_refl (end-ok k hk p p-lt))) in
                let most : n * (5 * (0 + 2 ^ (a + 127)) + 2 ^ (a + 124 + 10)) ≤ 2 ^ (a + 149) = coarse n (header-most kind) in
                omega (
                  arith,
                  not-so-low exactly z e chain.off (nat_abs z) (141 * 2 ^ (a + 149)) (2 ^ (a + 149)) below-zero under
                      (end-within (141 * 2 ^ (a + 149)) (omega arith)) (le_trans chain.small most),
                )

        gain-exact : Near 149 (lost a) (gain_of X (start k) p) exactly
        gain-exact =
            let u = upto-units 160 a start-units high-start in
            let chain = chain-near 160 9 u (omega arith) (lit≤ tt) in
            let gain = gain-near 160 9 u (omega arith) (lit≤ tt) (subst (λ (x : Float). Units 149 x (z +ℤ exactly +ℤ chain.off)) traced chain.is) in
            record {
              off = chain.off +ℤ gain.off;
              is =
                  subst (Units 149 (gain_of X (start k) p))
                  (ap (λ (x : ℤ). x -ℤ z +ℤ gain.off) (+ℤ_assoc z exactly chain.off)
                  ∙ ap (λ (x : ℤ). x +ℤ gain.off) (group.add-sub z (exactly +ℤ chain.off)) ∙ +ℤ_assoc exactly chain.off gain.off) gain.is;
              small = le_trans (abs-add chain.off gain.off) (omega (arith, chain.small, gain.small, all-lost));
            }

  -- ---- the least of the tops

  -- x is some number of units above which no closed word's exact score is by more than what is lost
  abbrev Bounds : Float → Type 0
  Bounds x = (z : ℤ) × Units 149 x z × ((w : ℕ) → Demand.closed whole mode kind ints w ≤ℤ (z +ℤ pos (lost a)))

  pub near-bounded : NoneAbove (Units 149) (λ x y. x ≤ℤ (y +ℤ pos (lost a))) mode kind ints (document_search mode kind terms)
  near-bounded =
      let (bound, is, above) =
      ceiling-each X Bounds (λ k hk. (in_units 149 (top_of X (start k)), top-units k hk, λ w. word-near w k hk)) in
      record { bound = bound; is = is; none_above = λ w l. above w }

  -- ---- the word that is handed out

  closing-near : (k s : ℕ) → k ≤ 2 → s < 16384 → T (closes X (start k) s)
      → Near 149 (lost a) (gain_of X (start k) s) (Demand.closed whole mode kind ints (word_of X (start k) s))
  closing-near k s hk hs t =
      let w = word_of X (start k) s in
      let q = start_of X (start k) s in
      let q-lt = trace-start-lt refl _ n hs in
      let meets : q ≡ s = eqb→eq _ _ t in
      let is_made : s ≡ made (bit w) n 14 =
      sym (trace-state 16384 refl _ n hs) ∙ ends-made (bit w) (bit-lt w) 14 q n q-lt (header-long kind) in
      subst (λ (r : ℕ). Near 149 (lost a) (gain_of X (start k) r) (Demand.closed whole mode kind ints w)) (sym is_made)
      (gain-exact w k hk (subst₂ (λ (r u : ℕ). along X (start k r) r w n ≡ ends k u) (meets ∙ is_made) is_made (attained X refl (start k) n hs)))

  pub near-score : ((search X).how ≡ unclosed → ⊥) → Near 149 (lost a) (search X).score (Demand.closed whole mode kind ints (search X).word)
  near-score = search-each X (λ w x. Near 149 (lost a) x (Demand.closed whole mode kind ints w)) closing-near (lit< tt)
