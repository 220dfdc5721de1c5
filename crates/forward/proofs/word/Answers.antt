-- `forward::word` meets its contract: two halves are a word (`word_of`). Assumes nothing.
use Rattle.forward.proofs.Parts.{word_of}
use Rattle.forward.proofs.word.Goals as goal

pub returns : goal.returns
returns c =
    let a = c.args in
    word_of a.from.now a.bits a.w c.half.ensures c.half-2.ensures
