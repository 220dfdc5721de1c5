-- `conv::label` meets its contract: the code is the definition, and five parities make a small sum. Assumes nothing.
use native.Mathlib.Omega.{arith}
use Rattle.conv.specs.Label.{label_of}
use Rattle.conv.proofs.label.Goals as goal

pub returns : goal.returns
unfolding label_of
returns c = omega arith
