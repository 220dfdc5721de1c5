-- The loop's invariant: the bins passed have their factors, the others are 1. The measure is what is left of the bins
-- that are read. Assumes nothing.
use Prim.Native.Nat.{◌-◌, ◌≤◌}
use Rattle.level.proofs.Turns.{Passed}
use Rattle.level.specs.Level.{one}
use Rattle.noise.specs.Local.{factor_from}
use lib.Ieee.{nan}
use lib.ListN.{get_or}
use Rattle.noise.proofs.row.Given as goal

abbrev pub invariant-loop-b : goal.invariant-loop-b
invariant-loop-b l = (l.b ≤ l.read) × Passed nan one (λ k. factor_from (get_or l.sums k nan) (get_or l.counts k 0) l.empty (get_or l.errors (get_or l.counts k 0) nan) l.level) l.b l.out

abbrev pub decreases-loop-b : goal.decreases-loop-b
decreases-loop-b l = l.read - l.b
