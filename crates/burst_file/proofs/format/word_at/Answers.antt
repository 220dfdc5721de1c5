-- `burst_file::format::word_at` meets its contract: the code is the definition. Assumes nothing.
use Rattle.burst_file.specs.Numbers.{word_at}
use Rattle.burst_file.proofs.format.word_at.Goals as goal

pub returns : goal.returns
unfolding word_at
returns c = c.word.ensures
