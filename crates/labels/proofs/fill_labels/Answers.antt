-- `labels::fill_labels` meets its contract: a table of another length is refused and left as it was, else it is the one table of all labels
-- (`labels-only`). Assumes nothing.
use borrow.Author.Tests.{eq-eqb}
use Rattle.labels.proofs.Kept.{labels-only}
use Rattle.labels.proofs.fill_labels.Goals as goal

pub returns-clause-lent : goal.returns-clause-lent
returns-clause-lent c =
    let filled = c.fill.ensures in
    let right = eq-eqb _ _ c.if-table-ne32768.false in
    simp right (labels-only _ filled.0 filled.1)
