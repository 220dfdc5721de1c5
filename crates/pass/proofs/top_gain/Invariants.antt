-- The loop's invariant: the greatest gain among the states passed. Assumes nothing.
use Prim.Native.Nat.{◌≤◌}
use mathlib.Core.Path.{◌≡◌}
use Rattle.trellis.specs.Numbers.{single}
use Rattle.trellis.specs.Scale.{highest}
use Rattle.pass.specs.Areas.{gain_in}
use Rattle.pass.proofs.top_gain.Given as goal

abbrev pub invariant-loop-s : goal.invariant-loop-s
invariant-loop-s l = (l.s ≤ 16384) × (l.top ≡ gain_in l.scores l.start (highest single (gain_in l.scores l.start) l.s))
