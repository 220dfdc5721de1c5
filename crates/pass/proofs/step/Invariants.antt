-- `pass::step` meets its contract. The invariant: the words passed are done. Assumes nothing.
use Prim.Native.Nat.{ℕ, ◌+◌, ◌*◌, ◌≤◌, ◌<◌}
use mathlib.Core.Path.{◌≡◌}
use lib.ListN.{length, get_or}
use Rattle.pass.specs.Areas.{table, over, flag}
use Rattle.trellis.specs.Search.{upper, step}
use Rattle.pass.proofs.step.Given as goal

abbrev pub invariant-loop-w : goal.invariant-loop-w
invariant-loop-w l = (l.w ≤ 256) × (length l.next ≡ 16384) × (length l.decisions ≡ length l.initial.decisions)
    × ((s : ℕ) → s < l.w * 64 → table l.next s ≡ step (over l.metrics) (table l.scores) l.j s)
    × ((v : ℕ) → v < l.w → (i : ℕ) → i < 64 → flag (get_or l.decisions (l.j * 256 + v) 0) i ≡ upper (over l.metrics) (table l.scores) l.j (v * 64 + i))
    × ((i : ℕ) → i < l.j * 256 → get_or l.decisions i 0 ≡ get_or l.initial.decisions i 0)
