-- The loop's invariant: the greatest of the lanes passed. The measure is what is left of the sixteen. Assumes nothing.
use Prim.Native.Nat.{◌-◌, ◌≤◌}
use mathlib.Core.Path.{◌≡◌}
use Rattle.pass.specs.Areas.{table}
use Rattle.peak.specs.Peak.{greatest}
use Rattle.peak.proofs.of_all.Given as goal

abbrev pub invariant-loop-k : goal.invariant-loop-k
invariant-loop-k l = (l.k ≤ 16) × (l.top ≡ greatest (table l.lanes) l.k)

abbrev pub decreases-loop-k : goal.decreases-loop-k
decreases-loop-k l = 16 - l.k
