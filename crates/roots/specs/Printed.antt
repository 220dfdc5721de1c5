-- Document 02, #109: what the program prints, as bytes. `root_of` is the root worked out in whole numbers; that it is the f32 nearest √n, and the
-- table's entry, is proved in crates `root` and `root_table`.
use Rattle.std.specs.Prelude.{ℕ, zero, suc, List, [], ◌∷◌, ◌++◌, ltb, Float}
use Rattle.std.specs.Float.{binary32}
use Rattle.std.specs.Float.Ieee.{to_bits}
use Rattle.io.specs.Digits.{last_digits}
use Rattle.util.specs.Choose.{choose}
use Rattle.root.specs.Root.{root_of}

-- a count below 100 in decimal, with no zero before it
unfoldable pub decimal_of : ℕ → List ℕ
decimal_of n = last_digits 10 (choose (ltb n 10) 1 2) n

-- a float's bits as eight hexadecimal digits, which `digits` writes in lower case
unfoldable pub bits_of : Float → List ℕ
bits_of x = last_digits 16 8 (to_bits binary32 x)

-- n in decimal, a blank, the bits of its root, a line end
unfoldable pub line_of : ℕ → List ℕ
line_of n = decimal_of n ++ (32 ∷ []) ++ bits_of (root_of n) ++ (10 ∷ [])

-- the lines of 1 to n, one after the other
unfoldable pub lines_to : ℕ → List ℕ
lines_to zero = []
lines_to (suc n) = lines_to n ++ line_of (suc n)

-- all that is printed
abbrev pub printed : List ℕ
printed = lines_to 52
