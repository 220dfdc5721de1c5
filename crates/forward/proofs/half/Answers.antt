-- `forward::half` meets its contract: four parts are half a word (`half_of`). Assumes nothing.
use Rattle.forward.proofs.Parts.{half_of}
use Rattle.forward.proofs.half.Goals as goal

pub returns : goal.returns
returns c =
    let a = c.args in
    half_of a.from.now a.bits a.i c.part.ensures c.part-2.ensures c.part-3.ensures c.part-4.ensures
