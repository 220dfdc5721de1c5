-- `fit::shrunk_slope` meets its contract: what its three calls give, put together. Assumes nothing.
use lib.Ieee.{of_int}
use lib.Ieee.{of_bits, round}
use Rattle.fit.specs.Fit.{shrunk_slope}
use Rattle.fit.proofs.shrunk_slope.Goals as goal

pub returns : goal.returns
unfolding shrunk_slope of_bits round of_int
returns c = simp (c.clamp.ensures, c.larger-2.ensures, c.larger.ensures)
