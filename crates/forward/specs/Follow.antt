-- Start states followed forward through a step's decisions.
use Rattle.std.specs.Prelude.{ℕ, ◌+◌, ◌/◌, ◌^◌, ◌<◌, Bool, List, ◌≡◌, eqb, length, get_or}
use Rattle.std.specs.Int.Bits.{bit_and}
use Rattle.util.specs.Choose.{choose}
use Rattle.trellis.specs.Search.{came_by, trace_start}
use Rattle.pass.specs.Areas.{flag, packed}

-- eight powers of two
pub record Masks (masks : List ℕ) : Type 0 where
  pub at : (k : ℕ) → k < 8 → get_or masks k 0 ≡ 2 ^ k

-- eight start states, each of a lower or an upper predecessor
pub record Eight (from : List ℕ) (x : ℕ) (masks : List ℕ) (piece : ℕ) (eight : List ℕ) : Type 0 where
  pub at : (k : ℕ) → k < 8 → get_or eight k 0 ≡ choose (eqb (bit_and piece (get_or masks k 0)) 0) (get_or from (x + k / 2) 0) (get_or from (x + 8192 + k / 2) 0)

-- what state s has: what the state had from which it was reached
abbrev pub had : List ℕ → Bool → ℕ → ℕ
had from upper s = get_or from (came_by 16384 upper s / 2) 0

-- n states from z on are done, by n decisions in one number; what stood before z is as it was
pub record Part (from : List ℕ) (piece z n : ℕ) (before after : List ℕ) : Type 0 where
  pub size : length after ≡ 16384
  pub done : (i : ℕ) → i < n → get_or after (z + i) 0 ≡ had from (flag piece i) (z + i)
  pub kept : (s : ℕ) → s < z → get_or after s 0 ≡ get_or before s 0

-- step j is done for every state
pub record Followed (decisions : List ℕ) (j : ℕ) (from to : List ℕ) : Type 0 where
  pub size : length to ≡ 16384
  pub at : (s : ℕ) → s < 16384 → get_or to s 0 ≡ had from (packed decisions j s) s

-- the start of every state's survivor over n steps: where its traceback ends
pub record Starts (decisions : List ℕ) (n : ℕ) (starts : List ℕ) : Type 0 where
  pub size : length starts ≡ 16384
  pub at : (s : ℕ) → s < 16384 → get_or starts s 0 ≡ trace_start 16384 (packed decisions) n s
