-- `symbol::erased` meets its contract: the code is the definition, and no product wraps. Assumes nothing.
use mathlib.Core.Path.{refl}
use Rattle.symbol.specs.Symbol.{erased_of}
use Rattle.symbol.proofs.erased.Goals as goal

pub returns : goal.returns
unfolding erased_of
returns c = refl
