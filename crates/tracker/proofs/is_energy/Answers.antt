-- The constants are computed. Assumes nothing.
use Rattle.std.proofs.Common.{rules}
use lib.Ieee.{of_bits, of_int}
use Rattle.tracker.proofs.is_energy.Goals as goal

pub returns-then-x : goal.returns-then-x
unfolding of_bits of_int
returns-then-x c = search rules
