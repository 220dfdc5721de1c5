-- `call::shift_after` meets its contract: each return by the tests that led there. Assumes nothing.
use native.Mathlib.Omega.{arith}
use mathlib.Core.Path.{ap, ◌∙◌}
use lib.Ieee.{binary64, of_bits, of_int, round}
use lib.IntN.{pos, ◌+ℤ◌, ◌-ℤ◌}
use Rattle.call.proofs.Words.{back}
use Rattle.ieee.proofs.Integers.{abs-add, abs-sub}
use Rattle.call.proofs.shift_after.Goals as goal

pub returns-then-at-target : goal.returns-then-at-target
unfolding of_bits round
returns-then-at-target c =
    let z = c.args.z in
    let same = back z (omega (arith, c.requires)) in
    let whole = c.from-at.ensures ∙ ap (of_int binary64) same in
    let next = back (z +ℤ pos 1) (omega (arith, c.requires, abs-add z (pos 1))) in
    simp (same, next, simp whole at c.if-at-target.true)

pub returns-then-target-at : goal.returns-then-target-at
unfolding of_bits round
returns-then-target-at c =
    let z = c.args.z in
    let same = back z (omega (arith, c.requires)) in
    let whole = c.from-at.ensures ∙ ap (of_int binary64) same in
    let next = back (z -ℤ pos 1) (omega (arith, c.requires, abs-sub z (pos 1))) in
    simp (same, next, simp whole at c.if-at-target.false, simp whole at c.if-target-at.true)

pub returns-else-target-at : goal.returns-else-target-at
unfolding of_bits round
returns-else-target-at c =
    let z = c.args.z in
    let same = back z (omega (arith, c.requires)) in
    let whole = c.from-at.ensures ∙ ap (of_int binary64) same in
    simp (same, simp whole at c.if-at-target.false, simp whole at c.if-target-at.false)
