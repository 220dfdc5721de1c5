-- What is made of 32 values depends on those 32 alone; and one value more of a log-sum. Assumes nothing.
use Prim.Native.Nat.{ℕ, zero, suc, ◌+◌, ◌≤◌, ◌<◌}
use mathlib.Core.Bool.{Bool}
use mathlib.Core.Path.{◌≡◌, refl, ap, ap₂, ◌∙◌}
use native.Mathlib.Numerals.{add-one}
use native.Mathlib.Omega.{arith}
use lib.Dec.{eqb, lit<}
use lib.Ieee.{Float, binary32, sub}
use Rattle.util.specs.Choose.{choose}
use Rattle.ieee.specs.Whole.{run}
use Rattle.ieee.specs.Within.{larger, clamp}
use Rattle.ieee.proofs.Folds.{run-same}
use Rattle.lse.specs.Lse.{float32, negative, lse_of}
use Rattle.symbol.specs.Symbol.{greatest_of, metric_out, log_sum, bit_of, soft_bit}

-- one value more
pub sum_more : (bit : ℕ → ℕ) (b : ℕ) (values : ℕ → Float) (v : ℕ)
    → log_sum bit b values (v + 1) ≡ choose (eqb (bit v) b) (lse_of (log_sum bit b values v) (values v)) (log_sum bit b values v)
unfolding log_sum
sum_more bit b values v = ap (log_sum bit b values) (add-one v)

module _ (f g : ℕ → Float) (same : (v : ℕ) → v < 32 → f v ≡ g v) where
  greatest-same : greatest_of f ≡ greatest_of g
  unfolding greatest_of
  greatest-same = ap (λ (m : Float). run larger m f 32) (same 0 (lit< tt)) ∙ run-same larger (g 0) f g 32 same

  pub metric-same : (v : ℕ) → v < 32 → metric_out f v ≡ metric_out g v
  unfolding metric_out
  metric-same v h = ap₂ (λ (x m : Float). larger (sub binary32 x m) (negative 40)) (same v h) greatest-same

  sum_same : (bit : ℕ → ℕ) (b n : ℕ) → n ≤ 32 → log_sum bit b f n ≡ log_sum bit b g n
  unfolding log_sum
  sum_same bit b zero h = refl
  sum_same bit b (suc n) h =
      ap₂ (λ (s x : Float). choose (eqb (bit n) b) (lse_of s x) s) (sum_same bit b n (omega arith)) (same n (omega arith))

  pub soft-same : (gray : Bool) (k : ℕ) → soft_bit gray k f ≡ soft_bit gray k g
  unfolding soft_bit
  soft-same gray k =
      ap₂ (λ (x y : Float). clamp (negative 12) (float32 12) (sub binary32 x y)) (sum_same (bit_of gray k) 0 32 (omega arith))
      (sum_same (bit_of gray k) 1 32 (omega arith))
