-- `level::strongest` meets its contract. Assumes nothing.
use Prim.Native.Nat.{ℕ, ◌+◌, ◌-◌, ◌<◌}
use Rattle.frame.specs.Air.{bin_of, place_of}
use Rattle.level.proofs.Turns.{strongest-new, strongest-kept}
use Rattle.level.specs.Row.{strongest_to, strongest_of}
use lib.Ieee.{Float, nan}
use lib.ListN.{get_or}
use mathlib.Core.Path.{◌≡◌, ◌∙◌}
use native.Mathlib.Omega.{arith}
use Rattle.level.proofs.strongest.Goals as goal
use Rattle.level.proofs.strongest.Goals.{then-row-e, else-row-e}

pub loop-v-init : goal.loop-v-init
unfolding strongest_to
loop-v-init c =
    (omega arith, omega arith, c.tone_place-best.ensures.inside, c.tone_place-best.ensures.answer)

pub loop-v-preserved : goal.loop-v-preserved
loop-v-preserved c =
    let a = c.args in
    let row : ℕ → Float = λ b. get_or a.row.now b nan in
    let place : ℕ → ℕ = λ w. place_of (bin_of a.bins a.h w) in
    let v = c.loop-v.v in
    let e = c.tone_place-e.ensures in
    let turn : (c.if-row-e.best < 50) × (c.if-row-e.best ≡ strongest_to row place (v + 1 - 1)) =
    elim c.if-row-e.branch [
      | then-row-e w ↦ (omega (arith, e.inside), w.best-is ∙ strongest-new row place v _ _ c.loop-v.invariant.0 c.loop-v.invariant.3 e.answer w.if-row-e.true)
      | else-row-e w ↦ (omega arith, w.best-is ∙ strongest-kept row place v _ _ c.loop-v.invariant.0 c.loop-v.invariant.3 e.answer w.if-row-e.false)
    ] in
    (omega arith, omega arith, turn.0, turn.1)

pub returns-clause-answer : goal.returns-clause-answer
unfolding strongest_of
returns-clause-answer c =
    let all : c.loop-v.v ≡ 32 = omega arith in
    rw all at c.loop-v.invariant.3
