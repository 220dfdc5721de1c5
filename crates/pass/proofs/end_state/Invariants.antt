-- The loop's invariant: the lowest of the greatest among the states passed. Assumes nothing.
use Prim.Native.Nat.{◌≤◌, ◌<◌}
use mathlib.Core.Path.{◌≡◌}
use Rattle.pass.specs.Areas.{table}
use Rattle.trellis.specs.Numbers.{single}
use Rattle.trellis.specs.Scale.{highest}
use Rattle.pass.proofs.end_state.Given as goal

abbrev pub invariant-loop-s : goal.invariant-loop-s
invariant-loop-s l = (l.s ≤ 16384) × (l.best < 16384) × (l.best ≡ highest single (table l.scores) l.s)
