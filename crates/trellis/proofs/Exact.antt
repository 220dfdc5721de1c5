-- f32 follows the whole numbers: a score is the f32 of its whole number, a term is a whole number (and may be -0.0), up to 2 ^ 24 sums and
-- differences are exact, and the tests agree. Assumes nothing.
use Prim.Native.Nat.{ℕ, ◌+◌, ◌≤◌}
use mathlib.Core.Path.{◌≡◌, refl, ap, ◌∙◌}
use native.Mathlib.Nat.{le_trans}
use native.Mathlib.Omega.{arith}
use lib.IntN.{ℤ, pos, nat_abs, ◌+ℤ◌, ◌-ℤ◌}
use lib.Ieee as Ieee
use lib.Ieee.{Float, binary32, of_int}
use Rattle.ieee.specs.Whole.{Whole}
use Rattle.ieee.proofs.Integers.{abs-add, abs-sub}
use Rattle.ieee.proofs.Sums.{add-whole, sub-whole, lt-whole}
use Rattle.ieee.proofs.Values.{of_int-whole, add-of_int, sub-of_int}
use Rattle.trellis.specs.Numbers.{single, whole}
use Rattle.trellis.proofs.Alike.{Follows}

-- x is the whole number z and is written as its f32, so it is not -0.0; z lies within -q .. q
pub record Stands (q : ℕ) (x : Float) (z : ℤ) : Type 0 where
  pub whole : Whole x z
  pub is : x ≡ of_int binary32 z
  pub small : nat_abs z ≤ q

-- x is the whole number z, within -q .. q
pub record Term (q : ℕ) (x : Float) (z : ℤ) : Type 0 where
  pub whole : Whole x z
  pub small : nat_abs z ≤ q

pub follows-whole : (cap : ℕ) → cap ≤ 16777216 → Follows single whole Stands Term cap
unfolding of_int
follows-whole cap most =
    record {
      nil = record { whole = of_int-whole binary32 (pos 0) (omega arith); is = refl; small = omega arith };
      wider = λ l h. record { whole = h.whole; is = h.is; small = le_trans h.small l };
      term = λ h. record { whole = h.whole; small = h.small };
      add = λ {a} {b} {x} {y} {z} {v} h k room.
          let size : nat_abs (z +ℤ v) ≤ a + b = omega (arith, abs-add z v) in
          record {
            whole = add-whole binary32 h.whole k.whole (le_trans size (le_trans room most));
            is =
                ap (λ (t : Float). Ieee.add binary32 t y) h.is
                ∙ add-of_int binary32 z (omega arith) k.whole (le_trans size (le_trans room most));
            small = size;
          };
      sub = λ {a} {b} {x} {y} {z} {v} h k room.
          let size : nat_abs (z -ℤ v) ≤ a + b = omega (arith, abs-sub z v) in
          record {
            whole = sub-whole binary32 h.whole k.whole (le_trans size (le_trans room most));
            is =
                ap (λ (t : Float). Ieee.sub binary32 t y) h.is
                ∙ sub-of_int binary32 z (omega arith) k.whole (le_trans size (le_trans room most));
            small = size;
          };
      gt = λ h k. lt-whole k.whole h.whole;
    }
