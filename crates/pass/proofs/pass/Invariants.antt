-- The loop's invariant: an even number of steps has run, the areas taking turns (`Turned`). The measure is what is left
-- of them. Assumes nothing.
use Prim.Native.Nat.{◌-◌, ◌%◌, ◌≤◌}
use mathlib.Core.Path.{◌≡◌}
use Rattle.pass.specs.Areas.{table, steps_in, Turned}
use Rattle.pass.proofs.pass.Given as goal

abbrev pub invariant-loop-j : goal.invariant-loop-j
invariant-loop-j l = (l.steps ≡ steps_in l.metrics) × (l.j ≤ l.steps) × (l.j % 2 ≡ 0) × Turned l.metrics (table l.start) l.j l.scores l.next l.decisions

abbrev pub decreases-loop-j : goal.decreases-loop-j
decreases-loop-j l = l.steps - l.j
