-- The loop's invariant: kept says whether the entries below `half`, a power of two, keep to the rule. The measure is
-- what is left of them. Assumes nothing.
use Prim.Native.Nat.{ℕ, ◌-◌}
use mathlib.Core.Path.{◌≡◌}
use Rattle.util.specs.Every.{every}
use Rattle.labels.specs.Labels.{keeps_at}
use Rattle.labels.proofs.Kept.{Power}
use Rattle.labels.proofs.all_kept.Given as goal

abbrev pub invariant-loop-half : goal.invariant-loop-half
invariant-loop-half l = (k : ℕ) × Power l.half k × (l.kept ≡ every l.half (keeps_at l.table))

abbrev pub decreases-loop-half : goal.decreases-loop-half
decreases-loop-half l = 32768 - l.half
