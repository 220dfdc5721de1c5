-- `steps::rows` meets its contract. The invariant: the steps passed stand in the list. Assumes nothing.
use Prim.Native.Nat.{◌≤◌}
use mathlib.Core.Path.{◌≡◌}
use lib.ListN.{length}
use Rattle.frame.specs.Format.{header_bits}
use Rattle.steps.specs.Rows.{Rows}
use Rattle.steps.proofs.rows.Given as goal

abbrev pub invariant-loop-j : goal.invariant-loop-j
invariant-loop-j l = (l.n ≡ header_bits l.kind) × (l.j ≤ l.n) × (length l.list ≡ 2048) × Rows l.mode l.kind l.terms l.j l.list
