-- Inside: a symbol's ten log-sums as the code holds them, and a soft bit by them. `soft_bit` of `Symbol` says the same without the list.
use Rattle.std.specs.Prelude.{◌≡◌, ℕ, ◌+◌, ◌*◌, ◌/◌, ◌%◌, ◌<◌, Bool, List, Float, length, get_or}
use Rattle.std.specs.Float.{nan, binary32}
use Rattle.std.specs.Float.Ieee.{sub}
use Rattle.ieee.specs.Within.{clamp}
use Rattle.lse.specs.Lse.{float32, negative}
use Rattle.symbol.specs.Symbol.{log_sum, bit_of}

-- the ten log-sums of n values: at 2k of those whose bit k is 0, at 2k+1 of those whose bit k is 1
pub record Summed (gray : Bool) (x : ℕ → Float) (n : ℕ) (sums : List Float) : Type 0 where
  pub size : length sums ≡ 10
  pub each : (q : ℕ) → q < 10 → get_or sums q nan ≡ log_sum (bit_of gray (q / 2)) (q % 2) x n

-- bit k's soft bit by them
abbrev pub soft_from : List Float → ℕ → Float
soft_from sums k = clamp (negative 12) (float32 12) (sub binary32 (get_or sums (2 * k) nan) (get_or sums (2 * k + 1) nan))
