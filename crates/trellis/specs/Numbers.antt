-- The two kinds of score: f32 for what is computed, the whole numbers for what is claimed of it.
use Rattle.std.specs.Prelude.{ℤ, pos, ◌+ℤ◌, ◌-ℤ◌, Float}
use Rattle.std.specs.Int.Signed.{lt_z}
use Rattle.std.specs.Float.Ieee as Ieee
use Rattle.std.specs.Float.{binary32}
use Rattle.ieee.specs.Whole.{plus_zero}
use Rattle.trellis.specs.Scale.{Scale}

-- f32, from 0.0, rounded at each operation
abbrev pub single : Scale Float
single = record { nil = plus_zero; add = Ieee.add binary32; sub = Ieee.sub binary32; gt = λ a b. Ieee.lt b a }

-- the whole numbers
abbrev pub whole : Scale ℤ
whole = record { nil = pos 0; add = ◌+ℤ◌; sub = ◌-ℤ◌; gt = λ a b. lt_z b a }
