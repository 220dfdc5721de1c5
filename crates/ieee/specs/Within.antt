-- A float between two others, in Rust's own order; the larger of two, and a value held between two ends, as code writes
-- them. Beside it the tests that a rule asks of the ends: at literals each computes to true, and `tt` proves it.
-- Definitions only. Assumes nothing.
use Rattle.std.specs.Prelude.{Bool, ◌&&◌, cond, T, Float}
use Rattle.std.specs.Float.{Format}
use Rattle.std.specs.Float.Ieee.{add, sub, mul, div, lt, le}
use Rattle.std.specs.Float.Ieee.Scale.{finite}
use Rattle.std.specs.Float.Ieee.Positive.{positive}

-- With finite ends x is no NaN and no infinity, since `le` is false at a NaN.
pub record Within (l h x : Float) : Type 0 where
  pub from : T (le l x)
  pub to : T (le x h)

-- if x < y { y } else { x }
abbrev pub larger : Float → Float → Float
larger x y = cond (lt x y) y x

-- if x < l { l } else if h < x { h } else { x }
abbrev pub clamp : Float → Float → Float → Float
clamp l h x = cond (lt x l) l (cond (lt h x) h x)

-- ---- x in a..b and y in c..d: the result lies in l..h
abbrev pub four : Bool → Bool → Bool → Bool → Bool
four a b c d = a && b && (c && d)

abbrev pub inside : Float → Float → Float → Bool
inside l h z = le l z && le z h

abbrev pub ok_add : Format → Float → Float → Float → Float → Float → Float → Bool
ok_add f a b c d l h = four (finite a) (finite b) (finite c) (finite d) && (le l (add f a c) && le (add f b d) h)

abbrev pub ok_sub : Format → Float → Float → Float → Float → Float → Float → Bool
ok_sub f a b c d l h = four (finite a) (finite b) (finite c) (finite d) && (le l (sub f a d) && le (sub f b c) h)

-- by the four corners, so one rule for all signs
abbrev pub ok_mul : Format → Float → Float → Float → Float → Float → Float → Bool
ok_mul f a b c d l h =
    four (finite a) (finite b) (finite c) (finite d)
    && four (inside l h (mul f c a)) (inside l h (mul f d a)) (inside l h (mul f c b)) (inside l h (mul f d b))

-- the divisor's range lies above zero
abbrev pub ok_div : Format → Float → Float → Float → Float → Float → Float → Bool
ok_div f a b c d l h =
    four (finite a) (finite b) (positive c) (positive d)
    && four (inside l h (div f a c)) (inside l h (div f a d)) (inside l h (div f b c)) (inside l h (div f b d))
