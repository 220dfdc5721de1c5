-- A block: 32 states, whose 64 registers' labels are that of its first register, or what that is with all bits turned, another by those of the
-- 16 even registers below 32. So their metrics are two rows of 16. What the lists in the code hold, and what a block leaves.
use Rattle.std.specs.Prelude.{ℕ, zero, suc, ◌+◌, ◌*◌, ◌^◌, ◌<◌, ◌≤◌, Bool, List, ◌≡◌, Float, get_or}
use Rattle.std.specs.Int.Bits.{bit_xor}
use Rattle.util.specs.Choose.{choose}
use Rattle.conv.specs.Label.{label_of}
use Rattle.trellis.specs.Search.{upper, step}
use Rattle.pass.specs.Areas.{table, over}

-- the metrics of step j in 32 rows: row b has those of the even registers of a block whose first register has label b
pub record Rows (metrics : List Float) (j : ℕ) (rows : List Float) : Type 0 where
  pub at : (b k : ℕ) → b < 32 → k < 16 → table rows (16 * b + k) ≡ table metrics (j * 32 + bit_xor b (label_of (k * 2)))

-- the places of even states' decisions in a word: powers of four
pub record Places (places : List ℕ) : Type 0 where
  pub at : (k : ℕ) → k < 16 → get_or places k 0 ≡ 2 ^ (2 * k)

-- n decisions from state s on in a number, the first in the lowest bit
unfoldable pub word : (ℕ → Bool) → ℕ → ℕ → ℕ
word d s zero = 0
word d s (suc n) = word d s n + choose (d (s + n)) (2 ^ n) 0

-- block h of step j from the scores `from` is done: its 32 scores and decisions; the scores below are as they were
pub record Block (metrics from : List Float) (j h : ℕ) (before after : List Float) (decisions : ℕ) : Type 0 where
  pub done : (s : ℕ) → h * 32 ≤ s → s < h * 32 + 32 → table after s ≡ step (over metrics) (table from) j s
  pub below : (s : ℕ) → s < h * 32 → table after s ≡ table before s
  pub packed : decisions ≡ word (upper (over metrics) (table from) j) (h * 32) 32
