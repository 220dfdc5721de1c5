-- `search::lower` meets its contract. The invariant: the places passed hold the lowered scores. Assumes nothing.
use Prim.Native.Nat.{ℕ, ◌≤◌, ◌<◌}
use mathlib.Core.Path.{◌≡◌}
use lib.Ieee.{sub, binary32}
use lib.ListN.{length}
use Rattle.pass.specs.Areas.{table}
use Rattle.search.proofs.lower.Given as goal

abbrev pub invariant-loop-s : goal.invariant-loop-s
invariant-loop-s l = (l.s ≤ 16384) × (length l.start ≡ 16384) × ((k : ℕ) → k < l.s → table l.start k ≡ sub binary32 (table l.scores k) l.top)
