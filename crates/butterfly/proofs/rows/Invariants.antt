-- The loop's invariant: the rows passed hold their metrics. The measure is what is left of the 32. Assumes nothing.
use Prim.Native.Nat.{ℕ, ◌+◌, ◌*◌, ◌-◌, ◌≤◌, ◌<◌}
use mathlib.Core.Path.{◌≡◌}
use lib.Bits.{bit_xor}
use lib.ListN.{length}
use Rattle.util.specs.Table as Table
use Rattle.conv.specs.Label.{label_of}
use Rattle.pass.specs.Areas.{table}
use Rattle.butterfly.proofs.rows.Given as goal

abbrev pub invariant-loop-b : goal.invariant-loop-b
invariant-loop-b l = (l.b ≤ 32) × (length l.rows ≡ 512)
    × ((i : ℕ) → i < 16 * l.b → table l.rows i ≡ Table.rows 16 (λ b k. table l.metrics (l.j * 32 + bit_xor b (label_of (k * 2)))) i)

abbrev pub decreases-loop-b : goal.decreases-loop-b
decreases-loop-b l = 32 - l.b
