-- The loop's invariant: none of the bins passed has the rank, and the fences hold. The measure is what is left of the
-- bins. Assumes nothing.
use Prim.Native.Nat.{◌-◌, ◌≤◌}
use Rattle.level.specs.Inside.{held_at, Fenced}
use Rattle.level.specs.Rank.{ranks, first_that}
use mathlib.Core.Option.{none}
use mathlib.Core.Path.{◌≡◌}
use Rattle.level.proofs.of_rank.Given as goal

abbrev pub invariant-loop-b : goal.invariant-loop-b
invariant-loop-b l = (l.b ≤ l.bins.read) × (first_that (ranks (held_at l.bins.marks.now l.bins.values.now l.bins.base) l.bins.read l.k) (held_at l.bins.marks.now l.bins.values.now l.bins.base) l.b ≡ none) × Fenced (held_at l.bins.marks.now l.bins.values.now l.bins.base) l.bins.read l.k l.low l.high

abbrev pub decreases-loop-b : goal.decreases-loop-b
decreases-loop-b l = l.bins.read - l.b
