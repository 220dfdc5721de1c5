-- `interleave::scrambled_bit` meets its contract: no sum wraps. Assumes nothing.
use native.Mathlib.Omega.{arith}
use Rattle.interleave.proofs.Scramblers.{scramble-below}
use Rattle.interleave.proofs.scrambled_bit.Goals as goal

pub overflow_add-result : goal.overflow_add-result
overflow_add-result c = omega (arith, c.scramble.ensures, scramble-below c.args.p)
