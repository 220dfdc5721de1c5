-- The loop's invariant: the strongest of the values passed, by its place in the row. The measure is what is left of the
-- 32. Assumes nothing.
use Prim.Native.Nat.{◌-◌, ◌≤◌, ◌<◌}
use Rattle.frame.specs.Air.{bin_of, place_of}
use Rattle.level.specs.Row.{strongest_to}
use lib.Ieee.{nan}
use lib.ListN.{get_or}
use mathlib.Core.Path.{◌≡◌}
use Rattle.level.proofs.strongest.Given as goal

abbrev pub invariant-loop-v : goal.invariant-loop-v
invariant-loop-v l = (1 ≤ l.v) × (l.v ≤ 32) × (l.best < 50) × (l.best ≡ strongest_to (λ b. get_or l.row b nan) (λ w. place_of (bin_of l.bins l.h w)) (l.v - 1))

abbrev pub decreases-loop-v : goal.decreases-loop-v
decreases-loop-v l = 32 - l.v
