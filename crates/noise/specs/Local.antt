-- Document 02, #108, and phy_mfsk/rx/model.rs, `local_noise`: the factors, f32 throughout, rounded at each operation.
use Rattle.std.specs.Prelude.{ℕ, ◌+◌, ◌*◌, ◌-◌, false, ◌&&◌, List, leb, ltb, pos, Float}
use Rattle.std.proofs.Math.Option.{Option, none}
use Rattle.std.specs.Float.{fin, binary32}
use Rattle.std.specs.Float.Ieee.{of_int, add, sub, mul, div}
use Rattle.util.specs.Choose.{choose}
use Rattle.util.specs.Table.{tabled, rows}
use Rattle.frame.specs.Format.{format_of, header_bits}
use Rattle.frame.specs.Air.{hop_of}
use Rattle.ieee.specs.Within.{larger}
use Rattle.root.specs.Root.{root_of}
use Rattle.level.specs.Row.{ratio_of, strongest_of, held_of}
use Rattle.level.specs.Rank.{there_of}
use Rattle.level.specs.Level.{one, level_of}
use Rattle.nearby.specs.Sum.{sum_of}

-- what was heard of a burst: rows of 52 energies, a row for each data symbol, and the noise of each of the 52 bins
pub record Burst : Type 0 where
  pub mode : ℕ
  pub kind : ℕ
  pub rows : ℕ
  pub energies : List Float
  pub noise : List Float

abbrev pub burst : ℕ → ℕ → ℕ → List Float → List Float → Burst
burst mode kind rows energies noise = record { mode = mode; kind = kind; rows = rows; energies = energies; noise = noise }

abbrev pub bins_of : Burst → ℕ
bins_of a = (format_of a.mode).bins

-- the mode's bins and two on each side are read
abbrev pub read_of : Burst → ℕ
read_of a = bins_of a + 4

-- row i in units of the noise
abbrev pub ratios : Burst → ℕ → ℕ → Float
ratios a i = ratio_of a.energies a.noise i

-- the place of its strongest tone, row i being data symbol i, which the header's symbols come before
abbrev pub tone : Burst → ℕ → ℕ
tone a i = strongest_of (bins_of a) (hop_of (bins_of a) (header_bits a.kind + i)) (ratios a i)

-- what is held of it, bin by bin
unfoldable pub held : Burst → ℕ → ℕ → Option Float
held a i b = held_of (ratios a i) (tone a i) b

-- bin b of the 25 rows around row i, from row i - 12 to row i + 12; a row that there is not is missing
unfoldable pub around : Burst → ℕ → ℕ → ℕ → Option Float
around a i b k = choose (leb 12 (i + k) && ltb (i + k) (a.rows + 12)) (held a (i + k - 12) b) none

-- the mean of an empty bin in units of the noise: a part eps of them carries interference of r times the noise
unfoldable pub empty_mean : Float → Float → Float
empty_mean eps r = add binary32 one (mul binary32 eps (sub binary32 r one))

-- 2.0
abbrev pub two : Float
two = fin false 1 (pos 1)

-- two standard errors of a mean of c values
unfoldable pub two_errors : ℕ → Float
two_errors c = div binary32 two (root_of c)

-- a bin's own level from its sum and its count: with fewer than 6 it is 1
unfoldable pub bin_level : Float → ℕ → Float → Float → Float
bin_level sum count empty less =
    choose (leb 6 count) (sub binary32 (div binary32 (div binary32 sum (of_int binary32 (pos count))) empty) less) one

-- the larger of the bin's level and the row's, not below 1
unfoldable pub factor_from : Float → ℕ → Float → Float → Float → Float
factor_from sum count empty less level = larger (larger (bin_level sum count empty less) level) one

-- the factor of bin b in row i, the mean of an empty bin given; 1 beyond the bins that are read
unfoldable pub factor_at : Burst → Float → ℕ → ℕ → Float
factor_at a empty i b =
    let count = there_of (around a i b) 25 in
    choose (ltb b (read_of a)) (factor_from (sum_of (around a i b) 25) count empty (two_errors count) (level_of (held a i) (read_of a))) one

-- row by row
unfoldable pub factors_of : Burst → Float → List Float
factors_of a empty = tabled (52 * a.rows) (rows 52 (factor_at a empty))
