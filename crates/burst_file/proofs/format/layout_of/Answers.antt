-- `burst_file::format::layout_of` meets its contract, by the test on the version. Assumes nothing.
use borrow.Author.Tests.{eq-eqb, ne_eqb}
use Rattle.burst_file.specs.Head.{layout_of}
use Rattle.burst_file.proofs.format.layout_of.Goals as goal

pub returns-then-version-eq0 : goal.returns-then-version-eq0
unfolding layout_of
returns-then-version-eq0 c = simp (eq-eqb _ _ c.if-version-eq0.true)

pub returns : goal.returns
unfolding layout_of
returns c = simp (ne_eqb _ _ c.if-version-eq0.false)
