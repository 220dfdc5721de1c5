-- `noise::row` meets its contract. Assumes nothing.
use Rattle.level.proofs.Turns.{passed_none, passed-more}
use Rattle.level.specs.Level.{one}
use lib.Ieee.{nan, of_bits}
use native.Mathlib.Omega.{arith}
use Rattle.noise.proofs.row.Goals as goal

pub loop-b-init : goal.loop-b-init
unfolding of_bits
loop-b-init c = (omega arith, passed_none nan one _)

pub loop-b-preserved : goal.loop-b-preserved
loop-b-preserved c =
    (omega arith, passed-more nan one _ c.loop-b.b c.loop-b.out _ (omega arith) c.factor.ensures c.loop-b.invariant.1)
