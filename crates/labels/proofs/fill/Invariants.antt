-- The loop's invariant: the entries below `half`, a power of two, are labels. The measure is what is left of them.
-- Assumes nothing.
use Prim.Native.Nat.{ℕ, ◌-◌}
use mathlib.Core.Path.{◌≡◌}
use lib.ListN.{length}
use Rattle.labels.specs.Labels.{Labels}
use Rattle.labels.proofs.Kept.{Power}
use Rattle.labels.proofs.fill.Given as goal

abbrev pub invariant-loop-half : goal.invariant-loop-half
invariant-loop-half l = (k : ℕ) × Power l.half k × (length l.table ≡ 32768) × Labels l.half l.table

abbrev pub decreases-loop-half : goal.decreases-loop-half
decreases-loop-half l = 32768 - l.half
