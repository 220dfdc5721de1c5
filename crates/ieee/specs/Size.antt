-- How large and how fine a float is. num x / den x is |x|. Definitions only. Assumes nothing.
use Rattle.std.specs.Prelude.{◌≡◌, ℕ, ◌*◌, ◌^◌, ◌≤◌, true, not, T, Float}
use Rattle.std.specs.Float.{Format}
use Rattle.std.specs.Float.Ieee.{fits}
use Rattle.std.specs.Float.Ieee.Scale.{finite}
use Rattle.std.specs.Float.Ieee.Positive.{num, den}
use Rattle.ieee.specs.Whole.{is_zero}

-- |x| ≤ n * 2 ^ k, so x is no NaN and no infinity. n counts the terms of a sum, 2 ^ k bounds each.
pub record Upto (n k : ℕ) (x : Float) : Type 0 where
  pub finite : T (finite x)
  pub size : num x ≤ n * 2 ^ k * den x

-- 2 ^ -b ≤ |x|
pub record Least (b : ℕ) (x : Float) : Type 0 where
  pub finite : T (finite x)
  pub size : den x ≤ num x * 2 ^ b

-- x is a multiple of 2 ^ -j: `count` of them
pub record Grid (j : ℕ) (x : Float) : Type 0 where
  pub finite : T (finite x)
  pub count : ℕ
  pub size : num x * 2 ^ j ≡ count * den x

-- A score: a value of the format, bounded, and not -0.0.
pub record Score (f : Format) (n k : ℕ) (x : Float) : Type 0 where
  pub fits : T (fits f x)
  pub upto : Upto n k x
  pub plain : T (not (is_zero true x))
