-- The loop's invariant: the bins passed went through any function that the calls compute, and the others are as they
-- were. The measure is what is left of the bins. Assumes nothing.
use Prim.Native.Nat.{ℕ, ◌-◌, ◌≤◌}
use Rattle.nearby.specs.Inside.{Onward}
use lib.ListN.{length, get_or}
use mathlib.Core.Path.{◌≡◌}
use Rattle.nearby.proofs.onward.Given as goal

abbrev pub invariant-loop-b : goal.invariant-loop-b
invariant-loop-b g l = (l.from ≤ l.b) × (l.b ≤ l.to) × (length l.list ≡ 52)
    × ((d : _) (k : ℕ) → l.b ≤ k → get_or l.list k d ≡ get_or l.initial.list k d)
    × ((d : _) (next : _) → ((b : ℕ) (t r : _) → goal.F-post g l.f b t r → r ≡ next b t) → Onward d l.from l.b next l.initial.list l.list)

abbrev pub decreases-loop-b : goal.decreases-loop-b
decreases-loop-b g l = l.to - l.b
