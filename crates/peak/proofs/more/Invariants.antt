-- The loop's invariant: the lanes passed have met one number more, by any rule that the calls compute. The measure is
-- what is left of the sixteen. Assumes nothing.
use Prim.Native.Nat.{ℕ, ◌+◌, ◌-◌, ◌<◌, ◌≤◌}
use mathlib.Core.Path.{◌≡◌}
use lib.Ieee.{Float}
use lib.ListN.{length}
use Rattle.pass.specs.Areas.{table}
use Rattle.peak.specs.Peak.{greatest, lane, Lanes}
use Rattle.peak.proofs.more.Given as goal

abbrev pub invariant-loop-k : goal.invariant-loop-k
invariant-loop-k g l = (l.k ≤ 16) × (length l.r ≡ 16)
    × ((x : ℕ → Float) → ((s : ℕ) (r : Float) → goal.F-post g l.number s r → r ≡ x s) → Lanes x l.i l.lanes
    → (q : ℕ) → q < l.k → table l.r q ≡ greatest (lane x q) (l.i + 1 + 1))

abbrev pub decreases-loop-k : goal.decreases-loop-k
decreases-loop-k g l = 16 - l.k
