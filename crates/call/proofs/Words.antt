-- Shifts as i32: what is small fits, and comes back from its bits; and a shift moves by 1 at most. Assumes nothing.
use Prim.Native.Nat.{ℕ, ◌+◌, ◌≤◌}
use mathlib.Core.Bool.{Bool, true, false}
use mathlib.Core.Path.{◌≡◌}
use native.Mathlib.Omega.{arith}
use native.Mathlib.Nat.{lt_of_le_of_lt}
use lib.Dec.{lit<}
use lib.IntN.{ℤ, pos, negsuc, nat_abs, ◌+ℤ◌, ◌-ℤ◌}
use lib.Ieee.{Float, binary64, of_int, lt}
use lib.Signed.{mag}
use mir.Syntax.{w32}
use mir.Val.{SFits, to_z, of_z}
use mir.Facts.{to_z-of_z}
use Rattle.util.specs.Choose.{choose}
use Rattle.ieee.proofs.Integers.{abs-add, abs-sub}
use Rattle.blocks.specs.Doubles.{◌⊕◌, ◌⊖◌, fraction}
use Rattle.call.specs.Call.{shift_after}

mag-small : (z : ℤ) {b : ℕ} → nat_abs z ≤ b → mag z ≤ b
mag-small (pos n) h = h
mag-small (negsuc n) h = omega arith

pub small-fits : (z : ℤ) → nat_abs z ≤ 1000000 → SFits w32 z
small-fits z h = record { sfits = lt_of_le_of_lt (mag-small z h) (lit< tt) }

pub back : (z : ℤ) → nat_abs z ≤ 1000000 → to_z w32 (of_z w32 z) ≡ z
back z h = to_z-of_z {w = w32} {z = z} (small-fits z h)

-- a shift moves by 1 at most
pub shift-after-size : (z : ℤ) (target : Float) → nat_abs (shift_after z target) ≤ nat_abs z + 1
shift-after-size z target = by (lt (of_int binary64 z ⊕ fraction 7 10) target) (lt target (of_int binary64 z ⊖ fraction 7 10))
  where
    by : (s t : Bool) → nat_abs (choose s (z +ℤ pos 1) (choose t (z -ℤ pos 1) z)) ≤ nat_abs z + 1
    by true t = omega (arith, abs-add z (pos 1))
    by false true = omega (arith, abs-sub z (pos 1))
    by false false = omega arith
