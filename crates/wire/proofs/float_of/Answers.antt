-- `wire::float_of` meets its contract: the test on the pattern is the test for a NaN's, and there is one NaN. Assumes nothing.
use Prim.Native.Nat.{ℕ, ◌<◌, ◌≤◌, ◌%◌}
use mathlib.Core.Path.{◌≡◌, refl, sym, subst, ◌∙◌}
use mathlib.Core.Bool.{Bool, true, false, not, true≢false}
use lib.Dec.{T}
use lib.Ieee.{Float, nan, inf, fin, binary32, is_nan, nan_bits, of_bits, div}
use lib.Ieee.Bits.{nan_bits_above, nan_bits_is}
use borrow.Author.Tests.{le-ltb, lt-ltb}
use Rattle.wire.proofs.float_of.Goals as goal

is-nan : (x : Float) → is_nan x ≡ true → x ≡ nan
unfolding is_nan
is-nan nan e = refl
is-nan (inf s) e = absurd (true≢false (sym e))
is-nan (fin s m p) e = absurd (true≢false (sym e))

none : div binary32 (of_bits binary32 0) (of_bits binary32 0) ≡ nan
unfolding div of_bits
none = refl

above : (n : ℕ) → 2139095040 < n % 2147483648 → nan_bits binary32 n ≡ true
above n h = nan_bits_above binary32 n ∙ lt-ltb _ _ h

within : (n : ℕ) → n % 2147483648 ≤ 2139095040 → nan_bits binary32 n ≡ false
within n h = nan_bits_above binary32 n ∙ le-ltb _ _ h

pub returns-then-pattern-gt2139095040 : goal.returns-then-pattern-gt2139095040
returns-then-pattern-gt2139095040 c = none ∙ sym (is-nan _ (sym (nan_bits_is binary32 c.args.pattern) ∙ above c.args.pattern c.if-pattern-gt2139095040.true))

pub float_from_bits-result : goal.float_from_bits-result
float_from_bits-result c = subst (λ (b : Bool). T (not b)) (sym (within c.args.pattern c.if-pattern-gt2139095040.false)) tt
