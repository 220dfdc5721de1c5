-- `util::mix64` meets its contract: each line of the code is a line of the definition. Assumes nothing.
use Rattle.util.specs.SplitMix.{xor_shift, next_state, output, first_output}
use Rattle.util.proofs.mix64.Goals as goal

pub returns : goal.returns
unfolding first_output output next_state xor_shift
returns c = cc
