-- `forms::clear` meets its contract: 0.0 is plus zero. Assumes nothing.
use lib.Ieee.{of_bits}
use Rattle.forms.proofs.clear.Goals as goal

pub returns : goal.returns
unfolding of_bits
returns c = c.fill.ensures.after (λ y e. e)
