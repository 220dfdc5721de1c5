-- docs/BURST-FORMAT.md: numbers are little-endian, a float is the IEEE binary32 of its four bytes.
use Rattle.std.specs.Prelude.{ℕ, ◌+◌, ◌*◌, List, get_or, Float}
use Rattle.std.specs.Float.{binary32}
use Rattle.std.specs.Float.Ieee.{of_bits}

-- four bytes, the lowest first
abbrev pub word_of : ℕ → ℕ → ℕ → ℕ → ℕ
word_of a b c d = a + 256 * b + 65536 * c + 16777216 * d

-- the four bytes of a list from a place on
unfoldable pub word_at : List ℕ → ℕ → ℕ
word_at s at = word_of (get_or s at 0) (get_or s (at + 1) 0) (get_or s (at + 2) 0) (get_or s (at + 3) 0)

-- any NaN's pattern is the one NaN
unfoldable pub float_at : List ℕ → ℕ → Float
float_at s at = of_bits binary32 (word_at s at)
