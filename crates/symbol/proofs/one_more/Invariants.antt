-- The loop's invariant: the value is in the log-sums of the bits passed. The measure is what is left of the five.
-- Assumes nothing.
use Prim.Native.Nat.{◌+◌, ◌-◌, ◌≤◌}
use mathlib.Core.Path.{◌≡◌}
use lib.Ieee.{nan}
use lib.ListN.{get_or}
use Rattle.symbol.proofs.Sums.{Between}
use Rattle.symbol.proofs.one_more.Given as goal

abbrev pub invariant-loop-k : goal.invariant-loop-k
invariant-loop-k l = (l.k ≤ 5) × (l.x ≡ get_or l.values (l.base + l.v) nan) × Between l.gray (λ w. get_or l.values (l.base + w) nan) l.v l.k l.sums

abbrev pub decreases-loop-k : goal.decreases-loop-k
decreases-loop-k l = 5 - l.k
