-- The loop's invariant: the count of the bins passed, by any test that the calls compute. Assumes nothing.
use Prim.Native.Nat.{◌≤◌}
use Rattle.level.specs.Inside.{held_at}
use Rattle.level.specs.Rank.{count_of}
use lib.Ieee.{Float}
use mathlib.Core.Bool.{Bool}
use mathlib.Core.Path.{◌≡◌}
use Rattle.level.proofs.count.Given as goal

abbrev pub invariant-loop-b : goal.invariant-loop-b
invariant-loop-b g l = (l.b ≤ l.bins.read) × (l.n ≤ l.b) × ((test : Float → Bool) → ((y : Float) (r : Bool) → goal.F-post g l.passes y r → r ≡ test y) → l.n ≡ count_of test (held_at l.bins.marks.now l.bins.values.now l.bins.base) l.b)
