-- The loop's invariant: of the block's states those passed are done, whatever metrics the rows are of (`Begun`), and
-- their decisions stand in the word. The measure is what is left of the 16 butterflies. Assumes nothing.
use Prim.Native.Nat.{ℕ, ◌+◌, ◌*◌, ◌-◌, ◌^◌, ◌≤◌, ◌<◌}
use mathlib.Core.List.{List}
use mathlib.Core.Path.{◌≡◌}
use lib.Ieee.{Float}
use lib.ListN.{length}
use Rattle.trellis.specs.Search.{upper, step}
use Rattle.pass.specs.Areas.{table, over}
use Rattle.butterfly.specs.Blocks.{Rows, word}
use Rattle.butterfly.proofs.block.Given as goal

-- k butterflies of block h are done
pub record Begun (metrics from : List Float) (j h k : ℕ) (before after : List Float) (decisions : ℕ) : Type 0 where
  pub done : (s : ℕ) → h * 32 ≤ s → s < h * 32 + 2 * k → table after s ≡ step (over metrics) (table from) j s
  pub below : (s : ℕ) → s < h * 32 → table after s ≡ table before s
  pub packed : decisions ≡ word (upper (over metrics) (table from) j) (h * 32) (2 * k)

abbrev pub invariant-loop-k : goal.invariant-loop-k
invariant-loop-k l = (l.k ≤ 16) × (length l.next ≡ 16384) × (l.word < 2 ^ (2 * l.k))
    × ((metrics : List Float) (j : ℕ) → Rows metrics j l.rows → Begun metrics l.scores j l.h l.k l.initial.next l.next l.word)

abbrev pub decreases-loop-k : goal.decreases-loop-k
decreases-loop-k l = 16 - l.k
