-- `header::searched` meets its contract: the search over the list of metrics is document 01's over the terms (`search-same`). Assumes nothing.
use mathlib.Core.Path.{ap, ap₂, ◌∙◌}
use lib.Ieee.{Float}
use Rattle.header.proofs.Laid.{search-same, ceiling-same}
use Rattle.trellis.specs.Answer.{Outcome, answer_of}
use Rattle.trellis.specs.Numbers.{single}
use Rattle.header.proofs.searched.Goals as goal

pub returns-clause-answer : goal.returns-clause-answer
returns-clause-answer c =
    let s = c.search-found in
    let a = c.args in
    let rows = c.rows in
    let n = c.header_symbols-n in
    let list = rows.new.list in
    ap (λ (o : Outcome Float). record { word = s.result.word; outcome = o; ceiling = s.result.ceiling }) c.outcome_of.ensures
    ∙ ap₂ (answer_of single)
    (s.ensures.answer ∙ search-same a.mode a.kind a.terms.now list rows.ensures.rows rows.ensures.size n.result n.ensures)
    (s.ensures.ceiling ∙ ceiling-same a.mode a.kind a.terms.now list rows.ensures.rows rows.ensures.size n.result n.ensures)
