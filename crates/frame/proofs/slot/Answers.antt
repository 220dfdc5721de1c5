-- `frame::slot` meets its contract: the code is the definition, and a product of numbers to 10,240 does not wrap.
-- Assumes nothing.
use Prim.Native.Nat.{ℕ, ◌*◌, ◌%◌}
use mathlib.Core.Path.{ap}
use Rattle.frame.specs.Air.{slot_of}
use Rattle.frame.proofs.slot.Goals as goal

pub returns : goal.returns
unfolding slot_of
returns c = ap (λ (a : ℕ). a * c.args.p % c.args.n) c.mult.ensures.answer
