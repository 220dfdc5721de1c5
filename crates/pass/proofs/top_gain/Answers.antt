-- `pass::top_gain` meets its contract. Assumes nothing.
use Prim.Native.Nat.{ℕ, ◌+◌}
use mathlib.Core.Bool.{Bool, true, false}
use mathlib.Core.Path.{◌≡◌, refl, ap, ◌∙◌}
use native.Mathlib.Numerals.{add-one}
use native.Mathlib.Omega.{arith}
use lib.Ieee.{Float, lt}
use Rattle.util.specs.Choose.{choose}
use Rattle.trellis.specs.Numbers.{single}
use Rattle.trellis.specs.Scale.{highest}
use Rattle.pass.specs.Areas.{gain_in}
use Rattle.pass.proofs.top_gain.Goals as goal

-- of one state it is the only one
alone : (f : ℕ → Float) → f 0 ≡ f (highest single f 1)
unfolding highest
alone f = ap f (go (lt (f 0) (f 0)))
  where
    go : (t : Bool) → ◌≡◌ {A = ℕ} 0 (choose t 0 0)
    go true = refl
    go false = refl

-- a state more, by the test
more : (f : ℕ → Float) (s : ℕ) {x : Float} → x ≡ f (highest single f s) → choose (lt x (f s)) (f s) x ≡ f (highest single f (s + 1))
unfolding highest
more f s e = rw add-one (ap (λ (x : Float). choose (lt x (f s)) (f s) x) e ∙ go (highest single f s) (lt (f (highest single f s)) (f s)))
  where
    go : (h : ℕ) (t : Bool) → choose t (f s) (f h) ≡ f (choose t s h)
    go h true = refl
    go h false = refl

pub loop-s-init : goal.loop-s-init
loop-s-init c = let a = c.args in (omega arith, alone (gain_in a.scores.now a.start.now))

pub loop-s-preserved : goal.loop-s-preserved
loop-s-preserved c =
    let a = c.args in
    (omega arith, c.greater-top.ensures ∙ more (gain_in a.scores.now a.start.now) c.loop-s.s c.loop-s.invariant.1)
