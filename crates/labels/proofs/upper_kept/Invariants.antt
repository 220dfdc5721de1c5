-- The loop's invariant: kept says whether the entries below `half` + i keep to the rule. The measure is what is left of
-- them. Assumes nothing.
use Prim.Native.Nat.{◌+◌, ◌-◌, ◌≤◌}
use mathlib.Core.Path.{◌≡◌}
use Rattle.util.specs.Every.{every}
use Rattle.labels.specs.Labels.{keeps_at}
use Rattle.labels.proofs.upper_kept.Given as goal

abbrev pub invariant-loop-i : goal.invariant-loop-i
invariant-loop-i l = (l.i ≤ l.half) × (l.kept ≡ every (l.half + l.i) (keeps_at l.table))

abbrev pub decreases-loop-i : goal.decreases-loop-i
decreases-loop-i l = l.half - l.i
