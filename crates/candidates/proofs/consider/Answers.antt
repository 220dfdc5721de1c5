-- `candidates::consider` meets its contract: each return by the tests that led there. Assumes nothing.
use mathlib.Core.Bool.{true, false, and-false}
use mathlib.Core.Path.{◌≡◌, sym, ◌∙◌}
use borrow.Author.Tests.{eq-eqb, ne_eqb}
use lib.Dec.{eqb}
use Rattle.pass.specs.Areas.{packed}
use Rattle.candidates.specs.Best.{held_is}
use Rattle.candidates.specs.Scan.{considered}
use Rattle.trellis.specs.Numbers.{single}
use Rattle.trellis.specs.Search.{trace_start, beats}
use Rattle.candidates.proofs.consider.Goals as goal

pub returns-then-better-clause-by_index : goal.returns-then-better-clause-by_index
unfolding considered
returns-then-better-clause-by_index c =
    let a = c.args in
    let pre = c.requires in
    (λ d n known.
    let e : eqb (trace_start 16384 (packed d) n a.s) a.s ≡ true = eq-eqb _ _ (sym (known.at a.s pre.1) ∙ c.if-starts-s.true) in
    let b : beats single (held_is (packed d) n a.held) a.gain ≡ true = sym (c.better.ensures (packed d) n) ∙ c.if-better.true in
    simp (e, b))

pub returns-else-better-clause-by_index : goal.returns-else-better-clause-by_index
unfolding considered
returns-else-better-clause-by_index c =
    let a = c.args in
    let pre = c.requires in
    (λ d n known.
    let b : beats single (held_is (packed d) n a.held) a.gain ≡ false = sym (c.better.ensures (packed d) n) ∙ c.if-better.false in
    simp (b, and-false))

pub returns-else-starts-s-clause-by_index : goal.returns-else-starts-s-clause-by_index
unfolding considered
returns-else-starts-s-clause-by_index c =
    let a = c.args in
    let pre = c.requires in
    (λ d n known.
    let e : eqb (trace_start 16384 (packed d) n a.s) a.s ≡ false = ne_eqb _ _ (λ q. c.if-starts-s.false (known.at a.s pre.1 ∙ q)) in
    simp e)
