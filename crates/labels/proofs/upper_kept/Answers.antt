-- `labels::upper_kept` meets its contract. Assumes nothing.
use mathlib.Core.Path.{◌∙◌}
use native.Mathlib.Omega.{arith}
use Rattle.labels.proofs.Kept.{kept-further}
use Rattle.labels.proofs.upper_kept.Goals as goal

pub loop-i-preserved : goal.loop-i-preserved
loop-i-preserved c =
    let a = c.args in
    (omega arith, c.both-kept.ensures ∙ kept-further a.table.now a.half a.by c.loop-i.i c.requires.2 (omega arith) c.loop-i.invariant.1)
