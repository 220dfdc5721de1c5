-- The loop's invariant: the counts over the places passed, whatever values stand beside the marks. The measure is what
-- is left of the 25. Assumes nothing.
use Prim.Native.Nat.{◌-◌, ◌≤◌}
use Rattle.nearby.specs.Inside.{Counted}
use lib.Ieee.{Float}
use mathlib.Core.List.{List}
use Rattle.nearby.proofs.LastRows.counts.Given as goal

abbrev pub invariant-loop-n : goal.invariant-loop-n
invariant-loop-n l = (l.n ≤ 25) × ((values : List Float) → Counted l.self.marks values l.first l.n l.out)

abbrev pub decreases-loop-n : goal.decreases-loop-n
decreases-loop-n l = 25 - l.n
