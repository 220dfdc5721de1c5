-- `lse::lse` is `lse_of`: each way out by the tests that led there; the code's -1.0 / 0.0 computes to minus infinity. Assumes nothing.
use mathlib.Core.Path.{sym}
use lib.Ieee.{of_bits, neg, div}
use Rattle.lse.proofs.Ways.{lse-first, lse-second, lse-above, lse-below}
use Rattle.lse.proofs.lse.Goals as goal

pub returns-then-a-none : goal.returns-then-a-none
unfolding of_bits neg div
returns-then-a-none c = sym (lse-first c.args.a c.args.b c.if-a-none.true)

pub returns-then-b-none : goal.returns-then-b-none
unfolding of_bits neg div
returns-then-b-none c = let a = c.args in sym (lse-second a.a a.b c.if-a-none.false c.if-b-none.true)

pub returns-then-a-b : goal.returns-then-a-b
unfolding of_bits neg div
returns-then-a-b c =
    let at = c in
    let a = at.args in
    sym (lse-above a.a a.b c.exp.result c.ln_1p.result at.if-a-none.false
    c.if-b-none.false c.if-a-b.true c.exp.ensures c.ln_1p.ensures)

pub returns : goal.returns
unfolding of_bits neg div
returns c =
    let at = c in
    let a = at.args in
    sym (lse-below a.a a.b c.exp-2.result c.ln_1p-2.result at.if-a-none.false
    c.if-b-none.false c.if-a-b.false c.exp-2.ensures c.ln_1p-2.ensures)
