-- `header::read` meets its contract: a term out of range is refused and nothing stored; else the answer is the search's, all that is claimed of it
-- holds (`claims` of crate trellis), and the areas are cleared. Assumes nothing.
use mathlib.Core.Path.{◌≡◌, sym, ap, subst, ◌∙◌}
use native.Mathlib.Omega.{arith}
use Rattle.header.proofs.Lengths.{terms-right}
use Rattle.header.specs.Read.{answer_is}
use Rattle.trellis.proofs.NearExact.{claims}
use Rattle.trellis.specs.Demand.{Claims}
use Rattle.header.proofs.read.Goals as goal

pub returns-clause-claims : goal.returns-clause-claims
returns-clause-claims c =
    let a = c.args in
    let in-range = sym c.some_out.ensures ∙ c.if-some_out.false in
    let length-right = terms-right a.kind _ a.scores.now a.next.now a.start.now a.decisions.now c.requires.0 in
    let found = c.searched-answer in
    λ b e. let same : found.result ≡ b = cc in
    subst (Claims a.mode a.kind a.terms.now) (sym found.ensures.answer ∙ ap answer_is same)
    (claims a.mode a.kind a.terms.now (omega (arith, length-right)) in-range)
