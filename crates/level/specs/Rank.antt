-- Ranks by counting, over values some of which are missing. A missing one is not counted, whatever is asked.
use Rattle.std.specs.Prelude.{◌≡◌, ℕ, zero, suc, ◌+◌, ◌≤◌, ◌<◌, Bool, true, false, ◌&&◌, leb, ltb, Float}
use Rattle.std.proofs.Math.Option.{Option, none, some}
use Rattle.std.specs.Float.Ieee.{lt, le}
use Rattle.ieee.specs.Whole.{plus_zero}
use Rattle.util.specs.Choose.{choose}

-- it is there and passes
abbrev pub passes : (Float → Bool) → Option Float → Bool
passes test none = false
passes test (some x) = test x

-- 1 where it is so, else 0
abbrev pub once : Bool → ℕ
once t = choose t 1 0

-- how many of the first n do
unfoldable pub count_of : (Float → Bool) → (ℕ → Option Float) → ℕ → ℕ
count_of test held zero = 0
count_of test held (suc n) = count_of test held n + once (passes test (held n))

-- how many of the first n are there
abbrev pub there_of : (ℕ → Option Float) → ℕ → ℕ
there_of held n = count_of (λ x. true) held n

-- x has rank k, from 0 and rising, among the first n: at most k lie below it, and more than k do not lie above it
unfoldable pub ranks : (ℕ → Option Float) → ℕ → ℕ → Float → Bool
ranks held n k x = leb (count_of (λ y. lt y x) held n) k && ltb k (count_of (λ y. le y x) held n)

-- the one found so far; else the next, where it is there and passes
abbrev pub or_next : (Float → Bool) → Option Float → Option Float → Option Float
or_next test (some x) next = some x
or_next test none none = none
or_next test none (some x) = choose (test x) (some x) none

-- the first of the first n that is there and passes
unfoldable pub first_that : (Float → Bool) → (ℕ → Option Float) → ℕ → Option Float
first_that test held zero = none
first_that test held (suc n) = or_next test (first_that test held n) (held n)

abbrev pub or_zero : Option Float → Float
or_zero none = plus_zero
or_zero (some x) = x

-- the value of rank k among the first n. Where no NaN is there, there is one wherever k is below the number of those that
-- are, and any two are equal (proofs/Found.antt): 0.0 is never taken.
unfoldable pub of_rank : (ℕ → Option Float) → ℕ → ℕ → Float
of_rank held n k = or_zero (first_that (ranks held n k) held n)

-- x is of rank k among the first n: it is one of those that are there, at most k lie below it, and more than k do not lie
-- above it. `ranks` is the same as a test, of a value wherever it stands.
pub record OfRank (held : ℕ → Option Float) (n k : ℕ) (x : Float) : Type 0 where
  pub place : ℕ
  pub within : place < n
  pub there : held place ≡ some x
  pub below : count_of (λ y. lt y x) held n ≤ k
  pub not-above : k < count_of (λ y. le y x) held n
