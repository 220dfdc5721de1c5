-- `lse::exp` is `exp_of`: the code is straight, so each way out is one equation by computation. Assumes nothing.
use mathlib.Core.Path.{sym}
use lib.Ieee.{of_bits, neg}
use Rattle.ieee.specs.Whole.{run}
use Rattle.lse.proofs.Ways.{exp-low, exp-high}
use Rattle.lse.specs.Lse.{float32, negative, exp_step, squared}
use Rattle.lse.proofs.exp.Goals as goal

pub returns-then-t : goal.returns-then-t
unfolding float32 negative of_bits neg
returns-then-t c = sym (exp-low c.args.t c.if-t.true)

pub returns : goal.returns
unfolding float32 negative of_bits neg run exp_step squared
returns c = sym (exp-high c.args.t c.if-t.false)
