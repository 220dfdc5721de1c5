-- The constant is computed. Assumes nothing.
use Rattle.std.proofs.Common.{rules}
use lib.Ieee.{of_bits, of_int}
use Rattle.blocks.proofs.Gathered.still_good.Goals as goal

pub returns-then-b-le4096 : goal.returns-then-b-le4096
unfolding of_bits of_int
returns-then-b-le4096 c = search rules
