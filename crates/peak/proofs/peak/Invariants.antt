-- The loop's invariant: the lanes have met the rounds passed, by any rule that the calls compute. The measure is what
-- is left of the 1,024 rounds. Assumes nothing.
use Prim.Native.Nat.{ℕ, ◌-◌, ◌≤◌}
use mathlib.Core.Path.{◌≡◌}
use lib.Ieee.{Float}
use Rattle.peak.specs.Peak.{Lanes}
use Rattle.peak.proofs.peak.Given as goal

abbrev pub invariant-loop-i : goal.invariant-loop-i
invariant-loop-i g l = (l.i ≤ 1024) × ((x : ℕ → Float) → ((s : ℕ) (r : Float) → goal.F-post g l.number s r → r ≡ x s) → Lanes x l.i l.lanes)

abbrev pub decreases-loop-i : goal.decreases-loop-i
decreases-loop-i g l = 1024 - l.i
