-- `lse::ln_1p` is `ln1p_of`, by computation. Assumes nothing.
use mathlib.Core.Path.{refl}
use lib.Ieee.{of_bits}
use Rattle.ieee.specs.Whole.{run}
use Rattle.lse.specs.Lse.{float32, ln_step, ln_from, ln1p_of}
use Rattle.lse.proofs.ln_1p.Goals as goal

pub returns : goal.returns
unfolding ln1p_of ln_from ln_step run float32 of_bits
returns c = refl
