-- `noise::out_of_range` meets its contract, test by test. Assumes nothing.
use Rattle.std.proofs.Common.{arith}
use Rattle.std.proofs.lemmas.Grind.{common_steps}
use Rattle.noise.specs.Entry.{out_of_range}
use lib.Ieee.{of_bits}
use Rattle.noise.proofs.out_of_range.Goals as goal

pub returns-then-some_outside : goal.returns-then-some_outside
unfolding out_of_range of_bits
returns-then-some_outside c = grind (arith, common_steps)

pub returns-else-some_outside : goal.returns-else-some_outside
unfolding out_of_range of_bits
returns-else-some_outside c = grind (arith, common_steps)
