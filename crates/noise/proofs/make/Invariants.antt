-- The loop's invariant: the 25 places hold the rows to i + 11, and the rows of factors before row i are made. The
-- measure is what is left of the rows. Assumes nothing.
use Prim.Native.Nat.{ℕ, ◌+◌, ◌*◌, ◌-◌, ◌≤◌, ◌<◌}
use Rattle.nearby.specs.Inside.{Nearby}
use Rattle.noise.specs.Inside.{numbered}
use Rattle.noise.specs.Local.{burst, factor_at}
use Rattle.util.specs.Table.{rows}
use lib.Ieee.{nan}
use lib.ListN.{length, get_or}
use mathlib.Core.Path.{◌≡◌}
use Rattle.noise.proofs.make.Given as goal

abbrev pub invariant-loop-i : goal.invariant-loop-i
invariant-loop-i l = (l.i ≤ l.initial.rows) × Nearby (numbered (burst l.mode l.kind l.initial.rows l.energies l.noise)) (l.i + 12) l.last.marks l.last.values × (length l.factors ≡ 52 * l.initial.rows)
    × ((k : ℕ) → k < 52 * l.i → get_or l.factors k nan ≡ rows 52 (factor_at (burst l.mode l.kind l.initial.rows l.energies l.noise) l.empty) k)

abbrev pub decreases-loop-i : goal.decreases-loop-i
decreases-loop-i l = l.initial.rows - l.i
