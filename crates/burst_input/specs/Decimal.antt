-- A number in decimal digits, as an argument of `burst` has it.
use Rattle.std.specs.Prelude.{ℕ, ◌+◌, ◌*◌, ◌-◌, ◌^◌, Bool, not, ◌&&◌, ◌||◌, List, eqb, leb, length, get_or, Option, None, Some}
use Rattle.util.specs.Choose.{choose}
use Rattle.util.specs.Some.{some_of}
use Rattle.wire.specs.Bytes.{high_first}

-- a byte that is none of the digits 0 to 9
abbrev pub no_digit : ℕ → Bool
no_digit byte = not (leb 48 byte && leb byte 57)

-- the number that the first n digits make, the first one highest
abbrev pub number_of : List ℕ → ℕ → ℕ
number_of word n = high_first 10 (λ i. get_or word i 0 - 48) 0 n

-- digits alone, one at least, and a number below 2^64
unfoldable pub decimal_of : List ℕ → Option ℕ
decimal_of word =
    choose (eqb (length word) 0 || (some_of no_digit word || leb (2 ^ 64) (number_of word (length word)))) None (Some (number_of word (length word)))

-- n with a digit more behind it
unfoldable pub with_digit : ℕ → ℕ → Option ℕ
with_digit n byte = choose (no_digit byte || leb (2 ^ 64) (10 * n + (byte - 48))) None (Some (10 * n + (byte - 48)))
