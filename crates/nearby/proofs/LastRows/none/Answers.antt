-- `nearby::LastRows::none` meets its contract: 0.0 is plus zero. Assumes nothing.
use mathlib.Core.Path.{refl}
use lib.Ieee.{of_bits}
use Rattle.nearby.proofs.LastRows.none.Goals as goal

pub returns : goal.returns
unfolding of_bits
returns c = refl
