-- Document 02, #108: square roots as IEEE 754 has them, for the counts 1 to 52. `root_of` says how they are worked out,
-- `NearestRoot` what they are; proofs/Nearest.antt joins the two.
use Rattle.std.specs.Prelude.{ℕ, zero, suc, ◌+◌, ◌*◌, ◌/◌, ◌^◌, ◌<◌, T, ltb, pos, Float}
use Rattle.std.specs.Float.{binary32}
use Rattle.std.specs.Float.Ieee.{of_int, div, lt, le, fits}
use Rattle.std.specs.Float.Ieee.Scale.{finite}
use Rattle.std.specs.Float.Ieee.Positive.{num, den, positive}
use Rattle.ieee.specs.Whole.{plus_zero}
use Rattle.util.specs.Choose.{choose}

-- digit by digit from the weight w down, k digits: each is set where m with it is still less than √t + 1/2, which is
-- (m - 1/2)² < t, or m² < t + m in whole numbers
unfoldable pub digits : ℕ → ℕ → ℕ → ℕ → ℕ
digits zero w t m = m
digits (suc k) w t m = digits k (w / 2) t (choose (ltb ((m + w) * (m + w)) (t + (m + w))) (m + w) m)

-- the whole number nearest √t, for t up to 2^48 - 2^24 (beyond that it may have more than 24 digits)
unfoldable pub whole_root : ℕ → ℕ
whole_root t = digits 24 (2 ^ 23) t 0

-- √n lies from 2^e on and below 2^(e+1), e being 0, 1 or 2: there the values of f32 are the multiples of 2^-(23-e)
abbrev pub finest : ℕ → ℕ
finest n = choose (ltb n 4) 23 (choose (ltb n 16) 22 21)

-- √n in those multiples, and back
unfoldable pub root_of : ℕ → Float
root_of n = div binary32 (of_int binary32 (pos (whole_root (n * 4 ^ finest n)))) (of_int binary32 (pos (2 ^ finest n)))

-- x is the f32 nearest √n: √n lies above the middle between x and any lesser value that is not negative (the negative ones
-- are further off than 0), and below the middle between x and any greater one. (x + y)/2 < √n is (x + y)² < 4n; in
-- fractions x + y is `both x y` / (den x * den y).
abbrev pub both : Float → Float → ℕ
both x y = num x * den y + num y * den x

pub record NearestRoot (n : ℕ) (x : Float) : Type 0 where
  pub held : T (fits binary32 x)
  pub above : T (positive x)
  pub lesser : (y : Float) → T (fits binary32 y) → T (finite y) → T (le plus_zero y) → T (lt y x)
      → both x y * both x y < 4 * n * (den x * den y * (den x * den y))
  pub greater : (y : Float) → T (fits binary32 y) → T (finite y) → T (lt x y)
      → 4 * n * (den x * den y * (den x * den y)) < both x y * both x y
