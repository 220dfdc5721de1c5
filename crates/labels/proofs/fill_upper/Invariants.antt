-- `labels::fill_upper` meets its contract. The invariant: the entries below `half` + r are labels. The measure is what is left of
-- them. Assumes nothing.
use Prim.Native.Nat.{◌+◌, ◌-◌, ◌≤◌}
use mathlib.Core.Path.{◌≡◌}
use lib.ListN.{length}
use Rattle.labels.specs.Labels.{Labels}
use Rattle.labels.proofs.fill_upper.Given as goal

abbrev pub invariant-loop-r : goal.invariant-loop-r
invariant-loop-r l = (l.r ≤ l.half) × (length l.table ≡ 32768) × Labels (l.half + l.r) l.table

abbrev pub decreases-loop-r : goal.decreases-loop-r
decreases-loop-r l = l.half - l.r
