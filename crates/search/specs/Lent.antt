-- The areas that the search is lent.
use Rattle.std.specs.Prelude.{ℕ, ◌*◌, List, ◌≡◌, Float, length}
use Rattle.pass.specs.Areas.{steps_in, Metrics}

-- their lengths over these metrics (document 01: three of 16,384 f32, one of 256 u64 a step)
pub record Lent (metrics scores next start : List Float) (decisions : List ℕ) : Type 0 where
  pub steps : Metrics metrics
  pub of-scores : length scores ≡ 16384
  pub of-next : length next ≡ 16384
  pub of-start : length start ≡ 16384
  pub of-decisions : length decisions ≡ steps_in metrics * 256
