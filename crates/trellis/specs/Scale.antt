-- A kind of number to keep scores in: f32 in the product, the whole numbers in the theorems. One text serves both.
use Rattle.std.specs.Prelude.{ℕ, zero, suc, Bool}
use Rattle.util.specs.Choose.{choose}
use Rattle.ieee.specs.Whole.{run}

-- `gt a b` is the test a > b
pub record Scale (A : Type 0) : Type 0 where
  pub nil : A
  pub add : A → A → A
  pub sub : A → A → A
  pub gt : A → A → Bool

module _ {A : Type 0} (S : Scale A) where
  -- the sum from nil of the first k of x, from the left
  abbrev pub sum : (ℕ → A) → ℕ → A
  sum x k = run S.add S.nil x k

  -- the lowest of the greatest: of the first k places, by any function of the place
  unfoldable pub highest : (ℕ → A) → ℕ → ℕ
  highest f zero = 0
  highest f (suc k) = choose (S.gt (f k) (f (highest f k))) k (highest f k)

  -- the lesser of two, the first where they are equal
  abbrev pub lesser : A → A → A
  lesser a b = choose (S.gt a b) b a
