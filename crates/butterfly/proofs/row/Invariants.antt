-- The loop's invariant: the places passed hold their metrics. The measure is what is left of the 16. Assumes nothing.
use Prim.Native.Nat.{◌+◌, ◌*◌, ◌-◌, ◌≤◌}
use lib.Bits.{bit_xor}
use lib.Ieee.{nan}
use Rattle.util.specs.Table.{Stored}
use Rattle.conv.specs.Label.{label_of}
use Rattle.pass.specs.Areas.{table}
use Rattle.butterfly.proofs.row.Given as goal

abbrev pub invariant-loop-k : goal.invariant-loop-k
invariant-loop-k l = (l.k ≤ 16) × Stored nan l.k (16 * l.b) (λ i. table l.metrics (l.j * 32 + bit_xor l.b (label_of (i * 2)))) l.initial.rows l.rows

abbrev pub decreases-loop-k : goal.decreases-loop-k
decreases-loop-k l = 16 - l.k
