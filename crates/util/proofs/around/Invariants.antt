-- The loop's invariant: the first that suits from the pair of d on is the first that suits at all. The measure is what
-- is left of the n pairs. Assumes nothing.
use Rattle.std.proofs.Common.{◌≡◌, ◌+◌, ◌-◌, ◌≤◌}
use Rattle.util.specs.Multiplier.{pairs, suits, first_of}
use Rattle.util.proofs.Tries.{left}
use Rattle.util.proofs.around.Given as goal

abbrev pub invariant-loop-d : goal.invariant-loop-d
invariant-loop-d l = (l.d ≤ l.n + 1) × (left (suits l.n) l.n l.s l.d ≡ first_of (suits l.n) (pairs l.s 1 l.n) 1)

abbrev pub decreases-loop-d : goal.decreases-loop-d
decreases-loop-d l = l.n + 1 - l.d
