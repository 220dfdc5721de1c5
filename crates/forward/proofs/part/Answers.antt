-- `forward::part` meets its contract: eight states laid are a part (`part_of`). Assumes nothing.
use Rattle.forward.proofs.Parts.{part_of}
use Rattle.forward.proofs.part.Goals as goal

pub returns : goal.returns
returns c =
    let a = c.args in
    part_of a.from.now a.piece a.i c.requires.from_len.1 c.requires.masks c.eight-r.ensures c.lay.ensures
