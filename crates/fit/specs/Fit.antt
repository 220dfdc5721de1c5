-- Document 01, 'Drift': the fit over blocks, and its public entry. The order of the operations is the Rust's (`fit_drift`).
use Rattle.std.specs.Prelude.{ℕ, Bool, not, ◌&&◌, List, [], ◌∷◌, leb, ltb, length, Float}
use Rattle.std.specs.Float.{binary64}
use Rattle.std.specs.Float.Ieee.{add, neg, le}
use Rattle.ieee.specs.Whole.{plus_zero, run}
use Rattle.ieee.specs.Within.{larger, clamp}
use Rattle.util.specs.Choose.{choose}
use Rattle.util.specs.Refusal.{Cause, Outcome, outcome}
use Rattle.frame.specs.Format.{format_of}
use Rattle.util.specs.Every.{every}
use Rattle.blocks.specs.Doubles.{◌⊕◌, ◌⊖◌, ◌⊗◌, ◌⊘◌, as_f64, fraction}
use Rattle.blocks.specs.Blocks.{half, place2_at, timing_at, good_at}
use Rattle.blocks.specs.declared.Block.{Block}

-- ---- the fit of n blocks with places x and timings y

-- x 0, x 1 and so on to x (n - 1), from the left, from 0.0
abbrev pub sum_of : (ℕ → Float) → ℕ → Float
sum_of x n = run (add binary64) plus_zero x n

-- the sum of products about two means
abbrev pub products_of : ℕ → (ℕ → Float) → Float → (ℕ → Float) → Float → Float
products_of n x a y b = sum_of (λ i. (x i ⊖ a) ⊗ (y i ⊖ b)) n

-- what a line of slope s leaves at block i, and its squares; powi(2) a product
abbrev pub left_at : (ℕ → Float) → Float → (ℕ → Float) → Float → Float → ℕ → Float
left_at x a y b s i = (y i ⊖ b) ⊖ s ⊗ (x i ⊖ a)

abbrev pub squares_of : ℕ → (ℕ → Float) → Float → (ℕ → Float) → Float → Float → Float
squares_of n x a y b s = sum_of (λ i. left_at x a y b s i ⊗ left_at x a y b s i) n

-- 0.0003·symbol: drift beyond 300 ppm is not believed
abbrev pub limit_of : ℕ → Float
limit_of symbol = fraction 3 10000 ⊗ as_f64 symbol

-- the prior of ±100 ppm, squared
abbrev pub prior_of : ℕ → Float
prior_of symbol = (fraction 1 10000 ⊗ as_f64 symbol) ⊗ (fraction 1 10000 ⊗ as_f64 symbol)

-- a slope, shrunk towards 0 by a prior and the variance
abbrev pub shrunk : Float → Float → Float → Float
shrunk prior var s = s ⊗ prior ⊘ (prior ⊕ var)

-- the same by its own uncertainty, held to ±most
abbrev pub held_slope : Float → Float → Float → Float
held_slope most var s = clamp (neg most) most (s ⊗ s ⊗ s ⊘ larger (s ⊗ s ⊕ as_f64 4 ⊗ var) (fraction 1 1000000000000000000000000000000))

-- shrunk by both and held, from the sums: sxx about the mean place, the slope s, and the squares left
unfoldable pub shrunk_slope : ℕ → ℕ → Float → Float → Float → Float
shrunk_slope symbol n sxx s left =
    let var = as_f64 4 ⊗ (left ⊘ larger (as_f64 n ⊖ as_f64 2) (as_f64 1)) ⊘ sxx in
    held_slope (limit_of symbol) var (shrunk (prior_of symbol) var s)

-- from the means
unfoldable pub fit_about : ℕ → ℕ → (ℕ → Float) → Float → (ℕ → Float) → Float → Float
fit_about symbol n x xm y ym =
    let sxx = products_of n x xm x xm in
    let s = products_of n x xm y ym ⊘ sxx in
    choose (le sxx plus_zero) plus_zero (shrunk_slope symbol n sxx s (squares_of n x xm y ym s))

-- below 6 blocks 0.0
unfoldable pub fit_of : ℕ → ℕ → (ℕ → Float) → (ℕ → Float) → Float
fit_of symbol n x y = choose (ltb n 6) plus_zero (fit_about symbol n x (sum_of x n ⊘ as_f64 n) y (sum_of y n ⊘ as_f64 n))

-- ---- over a list of blocks

-- the fit of the first n blocks of a list
abbrev pub fit_blocks : ℕ → ℕ → List Block → Float
fit_blocks symbol n bs = fit_of symbol n (λ i. half (place2_at bs i)) (timing_at bs)

-- at most 64 blocks, all in range, none falling
abbrev pub good_blocks : ℕ → List Block → Bool
good_blocks n bs = leb n 64 && every n (good_at bs)

-- `good` says whether the blocks are
abbrev pub fit_causes : ℕ → Bool → List Cause
fit_causes mode good = (record { holds = ltb 1 mode; number = 1 }) ∷ (record { holds = not good; number = 10 }) ∷ []

-- the public entry
abbrev pub fit_answer : ℕ → List Block → Outcome Float
fit_answer mode bs = outcome (fit_causes mode (good_blocks (length bs) bs)) (fit_blocks (format_of mode).symbol (length bs) bs)
