-- `peak::of_all` meets its contract. Assumes nothing.
use mathlib.Core.Path.{refl, ◌∙◌}
use native.Mathlib.Omega.{arith}
use Rattle.pass.specs.Areas.{table}
use Rattle.peak.proofs.Greatest.{greatest-one, greatest-more}
use Rattle.peak.proofs.of_all.Goals as goal

pub loop-k-init : goal.loop-k-init
loop-k-init c = (omega arith, greatest-one (table c.args.lanes.now))

pub loop-k-preserved : goal.loop-k-preserved
loop-k-preserved c = (
  omega arith,
  c.greater-top.ensures ∙ greatest-more (table c.args.lanes.now) c.loop-k.k c.loop-k.invariant.1 refl,
)
