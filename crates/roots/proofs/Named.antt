-- The three lines that document 02 names, by computing. Assumes nothing.
use mathlib.Core.List.{[], ◌∷◌}
use mathlib.Core.Path.{◌≡◌, refl}
use lib.Ieee.{to_bits, div, of_int}
use Rattle.root.specs.Root.{digits, whole_root, root_of}
use Rattle.roots.specs.Printed.{decimal_of, bits_of, line_of}

-- 1 3f800000
pub one : line_of 1 ≡ 49 ∷ 32 ∷ 51 ∷ 102 ∷ 56 ∷ 48 ∷ 48 ∷ 48 ∷ 48 ∷ 48 ∷ 10 ∷ []
unfolding line_of decimal_of bits_of to_bits root_of whole_root digits div of_int
one = refl

-- 4 40000000
pub four : line_of 4 ≡ 52 ∷ 32 ∷ 52 ∷ 48 ∷ 48 ∷ 48 ∷ 48 ∷ 48 ∷ 48 ∷ 48 ∷ 10 ∷ []
unfolding line_of decimal_of bits_of to_bits root_of whole_root digits div of_int
four = refl

-- 49 40e00000
pub forty-nine : line_of 49 ≡ 52 ∷ 57 ∷ 32 ∷ 52 ∷ 48 ∷ 101 ∷ 48 ∷ 48 ∷ 48 ∷ 48 ∷ 48 ∷ 10 ∷ []
unfolding line_of decimal_of bits_of to_bits root_of whole_root digits div of_int
forty-nine = refl
