-- `util::gcd` meets its contract. Assumes nothing.
use Rattle.std.proofs.Common.{sym, ap, ◌∙◌, arith}
use Rattle.util.specs.Factor.{gcd_of}
use Rattle.util.proofs.Common.{gcd-step, gcd-end}
use Rattle.util.proofs.gcd.Goals as goal

pub loop-y-preserved : goal.loop-y-preserved
loop-y-preserved c = sym (gcd-step c.loop-y.x c.loop-y.y (omega arith)) ∙ c.loop-y.invariant

pub returns : goal.returns
returns c = sym (gcd-end c.loop-y.x) ∙ ap (gcd_of c.loop-y.x) (sym c.loop-y-test.false) ∙ c.loop-y.invariant
