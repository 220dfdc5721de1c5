-- The loop's invariant: the sum is that of the bits passed, and small enough. The measure is what is left of the 16.
-- Assumes nothing.
use Prim.Native.Nat.{◌+◌, ◌-◌, ◌*◌, ◌^◌, ◌≤◌}
use mathlib.Core.Path.{◌≡◌}
use lib.ListN.{get_or}
use Rattle.wire.specs.Bytes.{high_first}
use Rattle.burst_file.proofs.verdict.last_sixteen.Given as goal

abbrev pub invariant-loop-k : goal.invariant-loop-k
invariant-loop-k l = (l.k ≤ 16) × (l.sum ≡ high_first 2 (λ j. get_or l.bits j 0) l.at l.k) × (l.sum + 255 ≤ 255 * 2 ^ l.k)

abbrev pub decreases-loop-k : goal.decreases-loop-k
decreases-loop-k l = 16 - l.k
