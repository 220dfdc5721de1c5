-- `conv::parity` meets its contract: the code is the definition. Assumes nothing.
use mathlib.Core.Path.{refl}
use native.Mathlib.Omega.{arith}
use Rattle.conv.specs.Label.{parity_of}
use Rattle.conv.proofs.parity.Goals as goal

pub returns : goal.returns
unfolding parity_of
returns c = (refl, omega arith)
