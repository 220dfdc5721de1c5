-- The loop's invariant: the sum of what is passed, and its size.
use Prim.Native.Nat.{◌+◌, ◌*◌, ◌≤◌}
use mathlib.Core.Path.{◌≡◌}
use lib.IntN.{pos, nat_abs, ◌+ℤ◌}
use lib.ListN.{get_or}
use Rattle.ieee.specs.Whole.{run}
use Rattle.call.proofs.shift_sum.Given as goal

abbrev pub invariant-loop-z : goal.invariant-loop-z
invariant-loop-z l = (l.acc ≡ run ◌+ℤ◌ (pos 0) (λ k. get_or l.stored (l.first + k) (pos 0)) l.z-index) × (nat_abs l.acc ≤ 2048 * l.z-index)
