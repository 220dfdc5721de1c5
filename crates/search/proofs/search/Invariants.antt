-- The loop's invariant: pass k, counted from 0, is about to begin (`Begun`). The measure is what is left of the three.
-- Assumes nothing.
use Prim.Native.Nat.{ℕ, suc, ◌-◌}
use mathlib.Core.Path.{◌≡◌}
use Rattle.pass.specs.Areas.{steps_in}
use Rattle.search.proofs.Rounds.{Begun}
use Rattle.search.proofs.search.Given as goal

abbrev pub invariant-loop-best : goal.invariant-loop-best
invariant-loop-best l = (l.steps ≡ steps_in l.metrics) × (k : ℕ) × (l.pass ≡ suc k) × Begun l.metrics l.scores l.next l.start l.decisions l.best l.ceiling k

abbrev pub decreases-loop-best : goal.decreases-loop-best
decreases-loop-best l = 3 - l.pass
