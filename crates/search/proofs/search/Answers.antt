-- `search::search` meets its contract. Assumes nothing.
use Prim.Native.Nat.{ℕ, suc, ◌≤◌}
use mathlib.Core.Path.{◌≡◌, refl, ap, ◌∙◌}
use native.Mathlib.Numerals.{add-one}
use native.Mathlib.Omega.{arith}
use lib.Dec.{eqb}
use Rattle.pass.specs.Areas.{over}
use Rattle.search.proofs.Rounds.{first, out, lowest, out-ceiling, counted, next-begins, over-all, over-ceiling}
use Rattle.trellis.specs.Scale.{lesser}
use Rattle.trellis.specs.Numbers.{single}
use Rattle.trellis.specs.Search.{closing, ceiling_to}
use Rattle.util.specs.Choose.{choose}
use Rattle.search.proofs.search.Goals as goal
use Rattle.search.proofs.search.Goals.{After-ceiling_after-low}

-- the ceiling, that pass counted in
low-is : (c : After-ceiling_after-low) → c.ceiling_after-low.result ≡ ceiling_to (over c.args.metrics.now) c.loop-best.invariant.1
low-is c =
    let inv = c.loop-best.invariant in
    let gain = c.run-t.result.gain in
    lowest inv.3 c.run-t.ensures.passed
    (c.ceiling_after-low.ensures ∙ ap (λ (p : ℕ). choose (eqb p 1) gain (lesser single c.loop-best.ceiling gain)) inv.2)

pub loop-best-init : goal.loop-best-init
unfolding lib.Ieee.of_bits
loop-best-init c =
    (refl, 0, refl, first c.requires.0 (c.fill.ensures.after (λ y e. e)))

pub returns-then-t-clause-answer : goal.returns-then-t-clause-answer
returns-then-t-clause-answer c =
    let inv = c.loop-best.invariant in
    let t = c.run-t.result in ap (λ (n : ℕ). record { how = closing n; word = t.word; score = t.score }) inv.2
    ∙ out inv.3 c.run-t.ensures.passed c.if-t.true

pub returns-then-t-clause-ceiling : goal.returns-then-t-clause-ceiling
returns-then-t-clause-ceiling c =
    let inv = c.loop-best.invariant in
    let t = c.run-t.result in out-ceiling inv.3 c.run-t.ensures.passed c.if-t.true (low-is (goal.at.returns-then-t-clause-ceiling c).After-ceiling_after-low)

pub returns-then-pass-eq3-clause-answer : goal.returns-then-pass-eq3-clause-answer
returns-then-pass-eq3-clause-answer c =
    let best = c.scan-best in
    let inv = c.loop-best.invariant in
    let last : inv.1 ≡ 2 = omega (arith, inv.2, c.if-pass-eq3.true) in
    let so_far = counted inv.3 c.run-t.ensures.passed best.result best.ensures in
    c.best_or_last.ensures.answer ∙ over-all inv.3 c.run-t.ensures.passed best.result c.if-t.false last so_far

pub returns-then-pass-eq3-clause-ceiling : goal.returns-then-pass-eq3-clause-ceiling
returns-then-pass-eq3-clause-ceiling c =
    let best = c.scan-best in
    let inv = c.loop-best.invariant in
    let last : inv.1 ≡ 2 = omega (arith, inv.2, c.if-pass-eq3.true) in
    let so_far = counted inv.3 c.run-t.ensures.passed best.result best.ensures in
    c.best_or_last.ensures.ceiling ∙ over-ceiling inv.3 c.run-t.ensures.passed c.if-t.false last (low-is (goal.at.returns-then-pass-eq3-clause-ceiling c).After-ceiling_after-low)

pub loop-best-preserved : goal.loop-best-preserved
loop-best-preserved c =
    let best = c.scan-best in
    let inv = c.loop-best.invariant in
    let lent = c.run-t.ensures.lent in
    let low = c.lower.ensures in
    let few : suc inv.1 ≤ 2 = omega (arith, inv.2, inv.3.few, c.if-pass-eq3.false) in
    let so_far = counted inv.3 c.run-t.ensures.passed best.result best.ensures in (
      refl,
      suc inv.1,
      add-one _ ∙ ap suc inv.2,
      next-begins inv.3 c.run-t.ensures.passed best.result c.if-t.false few so_far (low-is (goal.at.loop-best-preserved c).After-ceiling_after-low) low.at
          (record { steps = lent.steps; of-scores = lent.of-scores; of-next = lent.of-next; of-start = low.size; of-decisions = lent.of-decisions }),
    )
