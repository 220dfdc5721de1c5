-- `labels::by_parity` meets its contract: a label fits. Assumes nothing.
use native.Mathlib.Omega.{arith}
use Rattle.conv.proofs.Linear.{label-lt}
use Rattle.labels.proofs.by_parity.Goals as goal

pub overflow_cast-result : goal.overflow_cast-result
overflow_cast-result c = omega (arith, c.label.ensures, label-lt c.args.r)
