-- f64 arithmetic as the definitions write it. Every operation is rounded once, left to right.
use Rattle.std.specs.Prelude.{ℕ, Bool, false, ◌&&◌, pos, Float}
use Rattle.std.specs.Float.{binary64}
use Rattle.std.specs.Float.Ieee.{round, of_int, add, sub, mul, div, neg, le}

infixl 6 ◌⊕◌ ◌⊖◌
infixl 7 ◌⊗◌ ◌⊘◌
abbrev pub ◌⊕◌ : Float → Float → Float
◌⊕◌ x y = add binary64 x y

abbrev pub ◌⊖◌ : Float → Float → Float
◌⊖◌ x y = sub binary64 x y

abbrev pub ◌⊗◌ : Float → Float → Float
◌⊗◌ x y = mul binary64 x y

abbrev pub ◌⊘◌ : Float → Float → Float
◌⊘◌ x y = div binary64 x y

-- a whole number as an f64, and the f64 nearest to a / b
abbrev pub as_f64 : ℕ → Float
as_f64 n = of_int binary64 (pos n)

abbrev pub fraction : ℕ → ℕ → Float
fraction a b = round binary64 false a b

-- x lies within ±most; a NaN does not
abbrev pub within : Float → Float → Bool
within most x = le (neg most) x && le x most
