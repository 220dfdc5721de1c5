-- `util::start` meets its contract: the code is the definition, and nothing wraps below 10,240. Assumes nothing.
use Rattle.std.proofs.Common.{refl}
use Rattle.util.specs.Multiplier.{start_of}
use Rattle.util.proofs.start.Goals as goal

pub returns : goal.returns
unfolding start_of
returns c = refl
