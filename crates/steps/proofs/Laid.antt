-- The metrics of a header's steps, one row after another: none, and one more. Assumes nothing.
use Prim.Native.Nat.{ℕ, ◌+◌, ◌*◌, ◌<◌}
use mathlib.Core.List.{List}
use mathlib.Core.Path.{◌≡◌, ◌∙◌}
use native.Mathlib.Nat.{not-suc-le-zero, mul-le-mul_left}
use native.Mathlib.Omega.{arith}
use borrow.Author.Count.{below_more}
use lib.Ieee.{Float, nan}
use lib.ListN.{get_or}
use Rattle.util.specs.Table.{Stored}
use Rattle.steps.specs.Rows.{step_metric, Row, Rows}

module _ (mode kind : ℕ) (terms : List Float) where
  pub rows_none : (list : List Float) → Rows mode kind terms 0 list
  rows_none list = record { at = λ j h. absurd (not-suc-le-zero h) }

  pub rows_more : {j : ℕ} {row was list : List Float} → Rows mode kind terms j was → Row mode kind terms j row
      → Stored nan 32 (32 * j) (λ v. get_or row v nan) was list → Rows mode kind terms (j + 1) list
  rows_more {j} {row} {was} {list} before here stored =
      record {
        at = below_more (λ (i : ℕ). (v : ℕ) → v < 32 → get_or list (32 * i + v) nan ≡ step_metric mode kind terms i v) j
            (λ i h v l. stored.kept (32 * i + v) (omega (arith, mul-le-mul_left 32 h)) ∙ before.at i h v l)
            (λ v l. stored.done v l ∙ here.at v l);
      }
