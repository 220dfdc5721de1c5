-- What `push` makes of the first i blocks and block i is what the first i + 1 give. Assumes nothing.
use Rattle.std.proofs.Common.{arith, subst, sym, ap, ◌∙◌}
use Rattle.blocks.specs.Inside.{push_of, Gathers}
use Rattle.blocks.proofs.Gathering.{gathers-none, gathers-more}
use Rattle.blocks.proofs.gather.Goals as goal

pub loop-i-init : goal.loop-i-init
loop-i-init g c = (omega arith, subst (Gathers (g.B.Blocks.listed c.args.blocks.now) 0) (sym c.none-g.ensures) (gathers-none _))

pub loop-i-preserved : goal.loop-i-preserved
loop-i-preserved g c = (
  omega arith,
  gathers-more (g.B.Blocks.listed c.args.blocks.now) c.loop-i.i c.loop-i.g c.push.new.self (omega arith)
      (c.push.ensures ∙ ap (push_of c.loop-i.g c.loop-i.i) c.at.ensures) c.loop-i.invariant.1,
)
