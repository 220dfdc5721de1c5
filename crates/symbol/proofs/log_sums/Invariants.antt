-- The loop's invariant: the log-sums of those passed. The measure is what is left of the 32. Assumes nothing.
use Prim.Native.Nat.{◌+◌, ◌-◌, ◌≤◌}
use lib.Ieee.{nan}
use lib.ListN.{get_or}
use Rattle.symbol.specs.Sums.{Summed}
use Rattle.symbol.proofs.log_sums.Given as goal

abbrev pub invariant-loop-v : goal.invariant-loop-v
invariant-loop-v l = (l.v ≤ 32) × Summed l.gray (λ w. get_or l.values (l.base + w) nan) l.v l.sums

abbrev pub decreases-loop-v : goal.decreases-loop-v
decreases-loop-v l = 32 - l.v
