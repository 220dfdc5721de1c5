-- A test of all numbers below k, worked out, and what it says of each. Assumes nothing.
use Prim.Native.Nat.{ℕ, zero, suc, ◌<◌}
use mathlib.Core.Path.{◌≡◌}
use mathlib.Core.Bool.{Bool, true, ◌&&◌}
use native.Mathlib.Decide.{ℕ_discrete}
use native.Mathlib.Omega.{arith}
use lib.Dec.{T}
use lib.Ieee.Fits.{and_l, and_r}

unfoldable pub every : ℕ → (ℕ → Bool) → Bool
every zero f = true
every (suc k) f = f k && every k f

pub every-at : (k : ℕ) (f : ℕ → Bool) → T (every k f) → (i : ℕ) → i < k → T (f i)
unfolding every
every-at zero f t i h = absurd (omega arith)
every-at (suc k) f t i h = go (ℕ_discrete i k) (λ l. every-at k f (and_r (f k) (every k f) t) i l)
  where
    go : Dec (i ≡ k) → (i < k → T (f i)) → T (f i)
    go (yes e) below = rw e (and_l (f k) (every k f) t)
    go (no n) below = below (omega arith)
