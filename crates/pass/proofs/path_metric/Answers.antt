-- `pass::path_metric` meets its contract: the code is the definition, and a label is below 32. Assumes nothing.
use Prim.Native.Nat.{◌<◌}
use native.Mathlib.Omega.{arith}
use Rattle.conv.proofs.Linear.{label-lt}
use Rattle.pass.proofs.path_metric.Goals as goal
use Rattle.pass.proofs.path_metric.Goals.{Start}

-- a label is small
small : (c : Start) → c.args.label < 32
small c = omega (arith, c.requires.in_range.3, label-lt c.args.r)

pub overflow_add-result : goal.overflow_add-result
overflow_add-result c = record { fits = omega (arith, small (goal.at.overflow_add-result c).Start, c.requires.metrics.few) }

pub offset_bounds-metrics-j : goal.offset_bounds-metrics-j
offset_bounds-metrics-j c = record { fits = omega (arith, small (goal.at.offset_bounds-metrics-j c).Start, c.requires.metrics.few) }

pub bounds-metrics-j : goal.bounds-metrics-j
bounds-metrics-j c = omega (arith, small (goal.at.bounds-metrics-j c).Start, c.requires.metrics.whole)
