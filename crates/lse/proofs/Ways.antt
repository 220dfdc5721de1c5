-- What `exp` and `lse` are on each way of the code: the tests that the code made, as equations, and the value. Assumes nothing.
use mathlib.Core.Path.{◌≡◌}
use mathlib.Core.Bool.{true, false}
use lib.Ieee.{Float, binary32, add, sub, div, lt, eq}
use Rattle.ieee.specs.Whole.{run}
use Rattle.lse.specs.Lse.{float32, negative, exp_step, squared, exp_of, ln1p_of, minus_infinity, joined, lse_of}
use Prim.Native.Nat.{◌-◌}

pub exp-low : (t : Float) → lt t (negative 16) ≡ true → exp_of t ≡ float32 0
unfolding exp_of
exp-low t e = rw e

pub exp-high : (t : Float) → lt t (negative 16) ≡ false
    → exp_of t ≡ squared (squared (squared (squared (run (exp_step (div binary32 t (float32 16))) (float32 1) (λ i. float32 (10 - i)) 10))))
unfolding exp_of
exp-high t e = rw e

module _ (a b : Float) where
  pub lse-first : eq a minus_infinity ≡ true → lse_of a b ≡ b
  unfolding lse_of
  lse-first e = rw e

  pub lse-second : eq a minus_infinity ≡ false → eq b minus_infinity ≡ true → lse_of a b ≡ a
  unfolding lse_of
  lse-second e g = rw (e, g)

  -- u and v are what the two calls gave
  pub lse-above : (u v : Float) → eq a minus_infinity ≡ false → eq b minus_infinity ≡ false → lt b a ≡ true → u ≡ exp_of (sub binary32 b a) → v ≡ ln1p_of u
      → lse_of a b ≡ add binary32 a v
  unfolding lse_of joined
  lse-above u v e g h p q = rw (e, g, h, q, p)

  pub lse-below : (u v : Float) → eq a minus_infinity ≡ false → eq b minus_infinity ≡ false → lt b a ≡ false → u ≡ exp_of (sub binary32 a b) → v ≡ ln1p_of u
      → lse_of a b ≡ add binary32 b v
  unfolding lse_of joined
  lse-below u v e g h p q = rw (e, g, h, q, p)
