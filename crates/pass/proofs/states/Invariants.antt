-- The loop's invariant: from state k of the word on the scores and the decisions are done, the scores below are as they
-- were, and the row holds the labels of the lower registers. Assumes nothing.
use Prim.Native.Nat.{ℕ, ◌+◌, ◌*◌, ◌-◌, ◌^◌, ◌≤◌, ◌<◌}
use mathlib.Core.Path.{◌≡◌}
use lib.ListN.{length}
use Rattle.labels.specs.Labels.{Row}
use Rattle.pass.specs.Areas.{table, over, flag}
use Rattle.trellis.specs.Search.{upper, step}
use Rattle.pass.proofs.states.Given as goal

abbrev pub invariant-loop-k : goal.invariant-loop-k
invariant-loop-k l = (l.k ≤ 64) × (length l.next ≡ 16384)
    × ((s : ℕ) → l.w * 64 + l.k ≤ s → s < l.w * 64 + 64 → table l.next s ≡ step (over l.metrics) (table l.scores) l.j s)
    × ((s : ℕ) → s < l.w * 64 + l.k → table l.next s ≡ table l.initial.next s)
    × (l.word < 2 ^ (64 - l.k))
    × ((i : ℕ) → i < 64 - l.k → flag l.word i ≡ upper (over l.metrics) (table l.scores) l.j (l.w * 64 + l.k + i))
    × Row (l.w * 64) l.row
