-- `tracker::numbers_kept` meets its contract: each return by the tests that led there. Assumes nothing.
use Rattle.std.proofs.Common.{rules}
use lib.Ieee.{of_bits, round}
use Rattle.tracker.proofs.numbers_kept.Goals as goal

pub returns-then-sums_kept : goal.returns-then-sums_kept
unfolding of_bits round
returns-then-sums_kept c = search rules

pub returns-else-sums_kept : goal.returns-else-sums_kept
unfolding of_bits round
returns-else-sums_kept c = search rules
