-- Both constants are computed. Assumes nothing.
use mathlib.Core.Path.{ap}
use lib.Ieee.{Float, binary64, div, of_bits, of_int}
use Rattle.blocks.specs.Doubles.{as_f64}
use Rattle.blocks.proofs.half.Goals as goal

pub returns : goal.returns
unfolding of_bits of_int
returns c = ap (λ (x : Float). div binary64 x (as_f64 2)) c.from.ensures
