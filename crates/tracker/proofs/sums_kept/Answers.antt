-- `tracker::sums_kept` meets its contract: each return by the tests that led there. Assumes nothing.
use Rattle.std.proofs.Common.{rules}
use lib.Ieee.{of_bits, of_int}
use Rattle.tracker.proofs.Signs.{minus-zero}
use Rattle.tracker.proofs.sums_kept.Goals as goal

pub returns-then-t : goal.returns-then-t
unfolding of_bits of_int
returns-then-t c = let zero = minus-zero c.args.t.tden in search rules

pub returns-else-t : goal.returns-else-t
unfolding of_bits of_int
returns-else-t c = search rules
