-- A pass's gains and their greatest; and the greatest of 16,384 numbers by sixteen lanes.
use Rattle.std.specs.Prelude.{ℕ, zero, suc, ◌+◌, ◌*◌, ◌<◌, not, List, ◌≡◌, T, Float, length}
use Rattle.std.specs.Float.Ieee.{sub, lt, is_nan}
use Rattle.std.specs.Float.{binary32}
use Rattle.trellis.specs.Numbers.{single}
use Rattle.trellis.specs.Scale.{highest}
use Rattle.pass.specs.Areas.{table}

-- the gain of state s between two areas of scores, the end's less the start's, and the greatest of all gains
abbrev pub gain_in : List Float → List Float → ℕ → Float
gain_in scores start s = sub binary32 (table scores s) (table start s)

abbrev pub top_in : List Float → List Float → Float
top_in scores start = gain_in scores start (highest single (gain_in scores start) 16384)

-- the greatest of the n first of f, of equal ones the lowest; f may be any floats, NaN too
abbrev pub greatest : (ℕ → Float) → ℕ → Float
greatest f n = f (highest single f n)

-- what lane k meets: place 0 as every lane does, since a first NaN is never passed; then every sixteenth place from k on
abbrev pub lane : (ℕ → Float) → ℕ → ℕ → Float
lane f k zero = f 0
lane f k (suc q) = f (q * 16 + k)

-- sixteen lanes after i rounds: each has the greatest that it has met
pub record Lanes (f : ℕ → Float) (i : ℕ) (lanes : List Float) : Type 0 where
  pub size : length lanes ≡ 16
  pub at : (k : ℕ) → k < 16 → table lanes k ≡ greatest (lane f k) (i + 1)

-- m is the greatest of the n first of f: one of them has it and none is above it, and it is a NaN only where the first of them is
pub record Peak (f : ℕ → Float) (n : ℕ) (m : Float) : Type 0 where
  pub place : ℕ
  pub inside : place < n
  pub has : m ≡ f place
  pub none_above : (s : ℕ) → s < n → T (not (lt m (f s)))
  pub nan : is_nan m ≡ is_nan (f 0)
