-- `board::segment_of` meets its contract. Assumes nothing.
use Rattle.slip.specs.Slips.{taken}
use Rattle.board.specs.Places.{segment_of}
use Rattle.board.proofs.segment_of.Goals as goal

pub returns-clause-number : goal.returns-clause-number
unfolding segment_of taken
returns-clause-number c = c.number_at.ensures.number
