-- `symbol::hold` is `clamp`: each way out by the tests that led there. Assumes nothing.
use mathlib.Core.Path.{sym}
use lib.Ieee.{of_bits, neg}
use Rattle.ieee.proofs.Intervals.{clamp-low, clamp-high, clamp-mid}
use Rattle.lse.specs.Lse.{float32, negative}
use Rattle.symbol.proofs.hold.Goals as goal

pub returns-then-x : goal.returns-then-x
unfolding float32 negative of_bits neg
returns-then-x c = sym (clamp-low (negative 12) (float32 12) c.args.x c.if-x.true)

pub returns-then-x-2 : goal.returns-then-x-2
unfolding float32 negative of_bits neg
returns-then-x-2 c = sym (clamp-high (negative 12) (float32 12) c.args.x c.if-x.false c.if-x-2.true)

pub returns : goal.returns
unfolding float32 negative of_bits neg
returns c = sym (clamp-mid (negative 12) (float32 12) c.args.x c.if-x.false c.if-x-2.false)
