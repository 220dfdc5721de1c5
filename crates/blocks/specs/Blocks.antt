-- Document 01, 'Drift': blocks, and which of them are in range.
use Rattle.std.specs.Prelude.{ℕ, zero, suc, Bool, ◌&&◌, List, leb, get_or, Float}
use Rattle.ieee.specs.Whole.{plus_zero}
use Rattle.blocks.specs.Doubles.{◌⊘◌, as_f64, within}
use Rattle.blocks.specs.declared.Block.{Block}

-- past the end of a list
abbrev pub nowhere : Block
nowhere = record { place2 = 0; timing = plus_zero }

-- a block's number, its place (half of place2) and its timing
abbrev pub place2_at : List Block → ℕ → ℕ
place2_at bs i = (get_or bs i nowhere).place2

abbrev pub half : ℕ → Float
half place2 = as_f64 place2 ⊘ as_f64 2

abbrev pub timing_at : List Block → ℕ → Float
timing_at bs i = (get_or bs i nowhere).timing

-- twice the place of the block before, 0 at the first
abbrev pub before : (ℕ → ℕ) → ℕ → ℕ
before p zero = 0
before p (suc i) = p i

-- block i: twice its place in 0..4,096 and not below the one before, its timing within ±4,096
abbrev pub good_at : List Block → ℕ → Bool
good_at bs i = leb (before (place2_at bs) i) (place2_at bs i) && (leb (place2_at bs i) 4096 && within (as_f64 4096) (timing_at bs i))
