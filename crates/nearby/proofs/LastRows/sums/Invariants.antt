-- The loop's invariant: the sums over the places passed. The measure is what is left of the 25. Assumes nothing.
use Prim.Native.Nat.{◌-◌, ◌≤◌}
use Rattle.nearby.specs.Inside.{Summed}
use Rattle.nearby.proofs.LastRows.sums.Given as goal

abbrev pub invariant-loop-k : goal.invariant-loop-k
invariant-loop-k l = (l.k ≤ 25) × Summed l.self.marks l.self.values l.first l.k l.out

abbrev pub decreases-loop-k : goal.decreases-loop-k
decreases-loop-k l = 25 - l.k
