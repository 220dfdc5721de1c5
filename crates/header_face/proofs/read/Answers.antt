-- `header_face::read` meets its contract: the entry's answer as a number and places, and what the entry claims of it. Assumes nothing.
use mathlib.Core.Path.{refl}
use Rattle.trellis.specs.Terms.{document_search}
use Rattle.header.specs.Read.{causes, areas}
use Rattle.header_face.proofs.Faces.{claimed}
use Rattle.header_face.proofs.read.Goals as goal

pub returns-clause-claims : goal.returns-clause-claims
returns-clause-claims c =
    let a = c.args in
    let h = c.read_header-read in
    let o = h.ensures in
    let t = c.told.ensures in
    claimed h.result (causes a.mode a.kind a.terms.now (areas a.scores.now a.next.now a.start.now a.decisions.now))
    (document_search a.mode a.kind a.terms.now) refl o.answer t o.claims
