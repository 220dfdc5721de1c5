-- The loop's invariant: no score passed reaches the greatest. The measure is what is left of the states. Assumes
-- nothing.
use Prim.Native.Nat.{ℕ, ◌-◌, ◌<◌, ◌≤◌}
use mathlib.Core.Bool.{false}
use mathlib.Core.Path.{◌≡◌}
use lib.Ieee.{le}
use Rattle.pass.specs.Areas.{table}
use Rattle.peak.proofs.end_state.Given as goal

abbrev pub invariant-loop-s : goal.invariant-loop-s
invariant-loop-s l = (l.s ≤ 16384) × ((t : ℕ) → t < l.s → le l.top (table l.scores t) ≡ false)

abbrev pub decreases-loop-s : goal.decreases-loop-s
decreases-loop-s l = 16384 - l.s
