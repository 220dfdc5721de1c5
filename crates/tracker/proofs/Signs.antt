-- How code tells -0.0 from what is not negative, by the cases of a float. Assumes nothing.
use Prim.Native.Nat.{ℕ, zero, suc, ◌+◌, ◌*◌}
use mathlib.Core.Bool.{true, false, true≢false, ◌&&◌}
use mathlib.Core.Path.{◌≡◌, refl, sym, ◌∙◌}
use native.Mathlib.Omega.{arith}
use native.Mathlib.Nat.{mul-pos}
use lib.Dec.{T, T_not, ltb, leb-zero, leb-suc-suc, lt→ltb}
use lib.IntN.{ℤ}
use lib.Ieee.{Float, nan, inf, fin, up, down, binary64, of_int, div, lt, le}
use lib.Ieee.Bits.{is_true, is_false}
use lib.Ieee.Fits.{up_pos}
use lib.Ieee.Scale.{finite}
use lib.Ieee.Positive.{positive}
use denote.Floats.{passes}
use Rattle.ieee.specs.Whole.{plus_zero, is_zero}
use Rattle.ieee.specs.Within.{Within}
use Rattle.ieee.proofs.Order.{le→not-lt}
use Rattle.ieee.proofs.Rounds.{div-above}
use Rattle.blocks.specs.Doubles.{◌⊘◌, as_f64}

pub within_both : {l h x : Float} → Within l h x → le l x && le x h ≡ true
within_both {l} {h} {x} w = λ i. is_true (le l x) w.from i && is_true (le x h) w.to i

-- above 0 by its own sign
abbrev up-positive : (m : ℕ) (e : ℤ) → T (positive (fin false (suc m) e))
up-positive m e = passes (ltb 0 (suc m)) (leb-suc-suc 0 m ∙ leb-zero m)

-- what is below 0 by its own sign is not above it
not-below : (m : ℕ) (e : ℤ) → T (lt (fin true (suc m) e) plus_zero)
unfolding lt
not-below m e = lt→ltb 0 (suc m * up e * 1 + 0 * 1 * down e) (omega (arith, mul-pos {m = suc m} {n = up e} (omega arith) (up_pos e)))

one-facts : T (finite (as_f64 1)) × T (le plus_zero (as_f64 1))
unfolding of_int le
one-facts = (tt, tt)

-- 1 by a value that is not negative is below 0 only where the value is -0.0
pub minus-zero : (x : Float) → le plus_zero x ≡ true → lt (as_f64 1 ⊘ x) plus_zero ≡ is_zero true x
unfolding le div of_int
minus-zero nan e = absurd (true≢false (sym e))
minus-zero (inf true) e = absurd (true≢false (sym e))
minus-zero (inf false) e = refl
minus-zero (fin true zero e') e = refl
minus-zero (fin false zero e') e = refl
minus-zero (fin false (suc m) e') e =
    is_false _ (le→not-lt plus_zero (as_f64 1 ⊘ fin false (suc m) e')
    (div-above binary64 (as_f64 1) (fin false (suc m) e') one-facts.0 (up-positive m e') one-facts.1))
minus-zero (fin true (suc m) e') e = absurd (T_not (lt (fin true (suc m) e') plus_zero) (le→not-lt plus_zero (fin true (suc m) e') (passes _ e)) (not-below m e'))
