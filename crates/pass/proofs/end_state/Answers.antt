-- `pass::end_state` meets its contract. Assumes nothing.
use Prim.Native.Nat.{ℕ, ◌+◌}
use mathlib.Core.Bool.{true, false}
use mathlib.Core.Path.{◌≡◌, refl, ◌∙◌}
use native.Mathlib.Numerals.{add-one}
use native.Mathlib.Omega.{arith}
use lib.Ieee.{Float, lt}
use Rattle.pass.specs.Areas.{table}
use Rattle.trellis.specs.Numbers.{single}
use Rattle.trellis.specs.Scale.{highest}
use Rattle.pass.proofs.end_state.Goals as goal
use Rattle.pass.proofs.end_state.Goals.{then-score-scores, else-score-scores}

-- a state more, by the test
module _ (f : ℕ → Float) (b s : ℕ) (e : b ≡ highest single f s) where
  taken : lt (f b) (f s) ≡ true → s ≡ highest single f (s + 1)
  unfolding highest
  taken t = rw add-one (cc)

  left : lt (f b) (f s) ≡ false → b ≡ highest single f (s + 1)
  unfolding highest
  left t = rw add-one (cc)

pub loop-s-init : goal.loop-s-init
unfolding highest
loop-s-init c = (omega arith, omega arith, refl)

pub loop-s-preserved : goal.loop-s-preserved
loop-s-preserved c =
    let f = table c.args.scores.now in
    elim c.if-score-scores.branch [
      | then-score-scores w ↦ (
        omega arith,
        omega (arith, w.best-is),
        w.best-is ∙ taken f c.loop-s.best c.loop-s.s c.loop-s.invariant.2 w.if-score-scores.true,
      )
      | else-score-scores w ↦ (
        omega arith,
        omega (arith, w.best-is),
        w.best-is ∙ left f c.loop-s.best c.loop-s.s c.loop-s.invariant.2 w.if-score-scores.false,
      )
    ]
