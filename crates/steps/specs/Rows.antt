-- The metrics of a header's steps as a list: 32 a step, those of its slot.
use Rattle.std.specs.Prelude.{ℕ, ◌+◌, ◌*◌, ◌<◌, List, ◌≡◌, Float, length, get_or}
use Rattle.std.specs.Float.{nan}
use Rattle.frame.specs.Format.{format_of, header_bits}
use Rattle.frame.specs.Air.{slot_of}
use Rattle.trellis.specs.Numbers.{single}
use Rattle.trellis.specs.Terms.{metric, lent}

-- value v's metric at step j
abbrev pub step_metric : ℕ → ℕ → List Float → ℕ → ℕ → Float
step_metric mode kind terms j v = metric single (format_of mode).bins (lent terms) (slot_of (header_bits kind) j) v

-- a row holds the 32 metrics of step j
pub record Row (mode kind : ℕ) (terms : List Float) (j : ℕ) (row : List Float) : Type 0 where
  pub size : length row ≡ 32
  pub at : (v : ℕ) → v < 32 → get_or row v nan ≡ step_metric mode kind terms j v

-- the first n steps stand in a list
pub record Rows (mode kind : ℕ) (terms : List Float) (n : ℕ) (list : List Float) : Type 0 where
  pub at : (j : ℕ) → j < n → (v : ℕ) → v < 32 → get_or list (32 * j + v) nan ≡ step_metric mode kind terms j v
