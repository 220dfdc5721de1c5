-- `call::sums_after` meets its contract, by cases of the sample. Assumes nothing.
use mathlib.Core.Path.{refl}
use lib.Ieee.{of_bits, round}
use Rattle.call.proofs.sums_after.Goals as goal

pub returns-in-Heard : goal.returns-in-Heard
unfolding of_bits round
returns-in-Heard c = simp (c.in-Heard.is, c.larger.ensures) (refl, refl)
