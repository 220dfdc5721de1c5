-- `noise::factor` meets its contract, by the test on the count and by those of its calls. Assumes nothing.
use Prim.Native.Nat.{ℕ, ◌<◌, ◌≤◌}
use Rattle.noise.specs.Local.{bin_level, factor_from}
use Rattle.util.proofs.Choose.{chosen, not_chosen}
use Rattle.util.specs.Choose.{choose}
use borrow.Author.Tests.{le-leb, lt-leb}
use lib.Dec.{leb}
use lib.Ieee.{Float, of_bits}
use mathlib.Core.Path.{◌≡◌}
use native.Mathlib.Omega.{arith}
use Rattle.noise.proofs.factor.Goals as goal

enough : (k n : ℕ) (x y : Float) → k ≤ n → choose (leb k n) x y ≡ x
enough k n x y h = chosen x y (le-leb k n h)

too-few : (k n : ℕ) (x y : Float) → n < k → choose (leb k n) x y ≡ y
too-few k n x y h = not_chosen x y (lt-leb k n h)

pub returns : goal.returns
unfolding factor_from bin_level of_bits
returns c = grind (arith, enough, too-few)
