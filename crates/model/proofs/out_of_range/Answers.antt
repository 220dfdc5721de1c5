-- `model::out_of_range` meets its contract, by the test on the least term. Assumes nothing.
use lib.Ieee.{of_bits, neg}
use Rattle.model.proofs.out_of_range.Goals as goal
use Rattle.model.proofs.out_of_range.Goals.{then-t, else-t}

pub returns : goal.returns
unfolding of_bits neg
returns c = elim c.if-t.branch [ then-t w ↦ rw (w.result-is, w.if-t.true) | else-t w ↦ rw (w.result-is, w.if-t.false) ]
