-- Document 02, #108, and phy_mfsk/rx/model.rs, `local_noise`: a row of 52 energies in units of the noise, its strongest
-- tone, and the bins that are taken out around it.
use Rattle.std.specs.Prelude.{◌≡◌, ℕ, zero, suc, ◌+◌, ◌*◌, ◌<◌, Bool, ◌&&◌, List, T, leb, get_or, Float}
use Rattle.std.proofs.Math.Option.{Option, none, some}
use Rattle.std.specs.Float.{nan, binary32}
use Rattle.std.specs.Float.Ieee.{div, lt, le}
use Rattle.util.specs.Choose.{choose}
use Rattle.frame.specs.Air.{bin_of, place_of}

-- bin b of row i in units of the bin's noise, rounded to f32
unfoldable pub ratio_of : List Float → List Float → ℕ → ℕ → Float
ratio_of energies noise i b = div binary32 (get_or energies (52 * i + b) nan) (get_or noise b nan)

-- of two places the one whose bin is stronger; of equals the first
abbrev pub stronger : (ℕ → Float) → ℕ → ℕ → ℕ
stronger row e f = choose (lt (row e) (row f)) f e

-- the strongest of the places that `place` gives for 0 to n
unfoldable pub strongest_to : (ℕ → Float) → (ℕ → ℕ) → ℕ → ℕ
strongest_to row place zero = place 0
strongest_to row place (suc n) = stronger row (strongest_to row place n) (place (suc n))

-- the strongest of the 32 values' bins in a row with hop h, by its place, the values in their order
unfoldable pub strongest_of : ℕ → ℕ → (ℕ → Float) → ℕ
strongest_of bins h row = strongest_to row (λ v. place_of (bin_of bins h v)) 31

-- e is the place of the strongest of the 32: that of one of the values, no value's bin is above it, and those of the values
-- before it are below it
pub record Strongest (bins h : ℕ) (row : ℕ → Float) (e : ℕ) : Type 0 where
  pub value : ℕ
  pub within : value < 32
  pub place : e ≡ place_of (bin_of bins h value)
  pub most : (w : ℕ) → w < 32 → T (le (row (place_of (bin_of bins h w))) (row e))
  pub first : (w : ℕ) → w < value → T (lt (row (place_of (bin_of bins h w))) (row e))

-- bin b is at most two from place e: five bins are
unfoldable pub is_around : ℕ → ℕ → Bool
is_around e b = leb e (b + 2) && leb b (e + 2)

-- what is held of bin b, the strongest tone being at place e: nothing around it, else its value
unfoldable pub held_of : (ℕ → Float) → ℕ → ℕ → Option Float
held_of row e b = choose (is_around e b) none (some (row b))
