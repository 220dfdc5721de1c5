-- `traceback::consider` meets its contract: each return by the tests that led there. Assumes nothing.
use mathlib.Core.Bool.{true, false, and-false}
use mathlib.Core.Path.{◌≡◌, sym, ◌∙◌}
use borrow.Author.Tests.{eq-eqb, ne_eqb}
use lib.Dec.{eqb}
use Rattle.pass.specs.Areas.{packed}
use Rattle.traceback.specs.Best.{best_is}
use Rattle.traceback.specs.Scan.{considered}
use Rattle.trellis.specs.Numbers.{single}
use Rattle.trellis.specs.Search.{trace_start, beats}
use Rattle.traceback.proofs.consider.Goals as goal

pub returns-then-not-beats : goal.returns-then-not-beats
unfolding considered
returns-then-not-beats c =
    let a = c.args in
    let b : beats single (best_is a.best) a.gain ≡ false = sym c.beats.ensures ∙ c.if-not-beats.true in
    simp (b, and-false)

pub returns-then-t-s : goal.returns-then-t-s
unfolding considered
returns-then-t-s c =
    let a = c.args in
    let t = c.trace-t in
    let b : beats single (best_is a.best) a.gain ≡ true =
    sym c.beats.ensures ∙ c.if-not-beats.false in
    let e : eqb (trace_start 16384 (packed a.decisions.now) a.steps a.s) a.s ≡ true = eq-eqb _ _ (sym t.ensures.1 ∙ c.if-t-s.true) in
    simp (b, e, t.ensures.0)

pub returns : goal.returns
unfolding considered
returns c =
    let a = c.args in
    let t = c.trace-t in
    let e : eqb (trace_start 16384 (packed a.decisions.now) a.steps a.s) a.s ≡ false = ne_eqb _ _ (λ q. c.if-t-s.false (t.ensures.1 ∙ q)) in
    simp e
