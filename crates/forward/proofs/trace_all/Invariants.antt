-- The loop's invariant: an even number of steps is followed, and `starts` has the start states. The measure is what is
-- left of the steps. Assumes nothing.
use Prim.Native.Nat.{◌-◌, ◌%◌, ◌≤◌}
use mathlib.Core.Path.{◌≡◌}
use lib.ListN.{length}
use Rattle.forward.specs.Follow.{Starts}
use Rattle.forward.proofs.trace_all.Given as goal

abbrev pub invariant-loop-j : goal.invariant-loop-j
invariant-loop-j l = (l.j ≤ l.steps) × (l.j % 2 ≡ 0) × (length l.other ≡ 16384) × Starts l.decisions l.j l.starts

abbrev pub decreases-loop-j : goal.decreases-loop-j
decreases-loop-j l = l.steps - l.j
