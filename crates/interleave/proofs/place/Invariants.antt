-- `interleave::place` meets its contract. The invariant: what was passed is placed, and s is the slot of what comes next.
-- The measure is what is left. Assumes nothing.
use Prim.Native.Nat.{ℕ, ◌-◌, ◌≤◌}
use mathlib.Core.Path.{◌≡◌}
use lib.ListN.{length, get_or}
use Rattle.frame.specs.Air.{slot_of, placed}
use Rattle.interleave.proofs.place.Given as goal

abbrev pub invariant-loop-p : goal.invariant-loop-p
invariant-loop-p g l = (l.p ≤ length l.message) × (length l.slots ≡ l.n) × (l.s ≡ slot_of l.n l.p)
    × ((value : ℕ → ℕ) → ((p r : ℕ) → goal.F-post g l.sent (get_or l.message p 0) p r → r ≡ value p) → l.slots ≡ placed l.n value l.p l.initial.slots)

abbrev pub decreases-loop-p : goal.decreases-loop-p
decreases-loop-p g l = length l.message - l.p
