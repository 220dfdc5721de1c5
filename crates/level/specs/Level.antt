-- Document 02, #108: a row's level, f32 throughout, rounded at each operation.
use Rattle.std.specs.Prelude.{ℕ, ◌/◌, false, ltb, pos, Float}
use Rattle.std.proofs.Math.Option.{Option}
use Rattle.std.specs.Float.{fin, binary32}
use Rattle.std.specs.Float.Ieee.{of_bits, sub, div}
use Rattle.ieee.specs.Within.{larger}
use Rattle.util.specs.Choose.{choose}
use Rattle.root.specs.Root.{root_of}
use Rattle.level.specs.Rank.{there_of, of_rank}

-- 1.0 and 3.0
abbrev pub one : Float
one = fin false 1 (pos 0)

abbrev pub three : Float
three = fin false 3 (pos 0)

-- ln 2, the median of an exponential with mean 1 (the Rust's LN_2)
unfoldable pub ln2 : Float
unfolding of_bits
ln2 = of_bits binary32 0x3f317218

-- from the median: the mean that it tells, less 3/√m (two standard errors of a median, each 1.5/√m of the mean), not below 1
unfoldable pub level_from : Float → Float → Float
level_from median less = larger (sub binary32 (div binary32 median ln2) less) one

-- of n bins the m that are there: with fewer than 8 the level is 1 (which is so in no row of a burst: noise
-- `Least.all-but-five`), else it is made of the value of rank m/2
unfoldable pub level_of : (ℕ → Option Float) → ℕ → Float
level_of held n =
    let m = there_of held n in
    choose (ltb m 8) one (level_from (of_rank held n (m / 2)) (div binary32 three (root_of m)))
