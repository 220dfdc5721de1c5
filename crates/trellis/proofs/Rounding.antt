-- WHAT ROUNDING LOSES in a walk's score: it is a sum of sums from the left, and each step loses at most half a unit in the last place (crate ieee's
-- `add-near`), a metric's five within 2^(a+3). Assumes nothing.
use Prim.Native.Nat.{ℕ, suc, ◌+◌, ◌-◌, ◌*◌, ◌^◌, ◌≤◌, ◌<◌}
use mathlib.Core.Path.{◌≡◌, sym, ap, ◌∙◌, subst}
use mathlib.Core.List.{List}
use native.Mathlib.Nat.{mul-le-mul_right}
use native.Mathlib.Omega.{arith}
use lib.Dec.{lit<}
use lib.ListN.{length}
use lib.Pow.{pow-add}
use lib.IntN.{ℤ}
use lib.Ieee.{Float, binary32}
use Rattle.ieee.specs.Size.{Upto}
use Rattle.ieee.specs.Units.{Units, Near}
use Rattle.ieee.proofs.Sizes.{upto_zero, upto-wider, run-upto, run-upto-from}
use Rattle.ieee.proofs.Units.{near-units, near-wider, run-near, units-zero, upto-units}
use Rattle.frame.specs.Format.{header_bits}
use Rattle.frame.proofs.Air.{header-most}
use Rattle.model.specs.Metric.{metric_of}
use Rattle.trellis.specs.Trellis.{Trellis}
use Rattle.trellis.specs.Numbers.{single, whole}
use Rattle.trellis.specs.Terms.{header, lent, UnitTerms}
use Rattle.trellis.specs.Demand.{walk, lost}
use Rattle.trellis.proofs.Best.{along}
use Rattle.trellis.proofs.Metric.{step-within}

-- a power further up
pub up_by : (a b c : ℕ) → b ≡ a + c → 2 ^ b ≡ 2 ^ a * 2 ^ c
up_by a b c e = ap (λ (k : ℕ). 2 ^ k) e ∙ pow-add 2 a c

module _ (mode kind a : ℕ) (terms : List Float) (ints : ℕ → ℤ) (all : length terms ≡ 260 * header_bits kind) (h : UnitTerms a terms ints) (few : a ≤ 20) where
  abbrev X : Trellis Float
  X = header single mode kind (lent terms)

  abbrev Y : Trellis ℤ
  Y = header whole mode kind ints

  there : (i : ℕ) → i < 260 * header_bits kind → i < length terms
  there i l = subst (λ (k : ℕ). i < k) (sym all) l

  term-upto : (i : ℕ) → i < 260 * header_bits kind → Upto 1 a (lent terms i)
  term-upto i l = upto-units 1 a (h.units i (there i l)) (omega (arith, h.small i (there i l)))

  term-near : (i : ℕ) → i < 260 * header_bits kind → Near 149 0 (lent terms i) (ints i)
  term-near i l = near-units (h.units i (there i l))

  -- a metric, five terms within 2^a, so within 2^(a+3), and 2^(a-22) lost at each step
  earn-upto : (j r : ℕ) → j < header_bits kind → Upto 5 a (X.earn j r)
  unfolding metric_of
  earn-upto j r k = run-upto binary32 a _ 5 (λ i l. term-upto _ (step-within mode kind j r i k l)) (lit< tt) (omega arith)

  earn-near : (j r : ℕ) → j < header_bits kind → Near 149 (5 * (0 + 2 ^ (a + 127))) (X.earn j r) (Y.earn j r)
  unfolding metric_of
  earn-near j r k =
      run-near binary32 a (a + 127) 0 1 0 _ _ 5 upto_zero units-zero (λ i l. term-upto _ (step-within mode kind j r i k l))
      (λ i l. term-near _ (step-within mode kind j r i k l))
      (lit< tt) (omega arith) (omega (arith, up_by (a + 149) (24 + suc (a + 127)) 3 (omega arith)))

  -- a walk, at most 64 metrics: within 320 · 2^a
  pub walk-upto : (p w : ℕ) → Upto 320 a (walk single mode kind (lent terms) p w)
  walk-upto p w =
      upto-wider 320 a
      (run-upto-from binary32 0 5 a _ (header_bits kind) upto_zero (λ j k. earn-upto j _ k) (omega (arith, header-most kind)) (omega arith))
      (mul-le-mul_right (2 ^ a) (omega (arith, header-most kind)))

  -- counted on from a score within c · 2^a that is exactly z units: 2^h units lost at each step, where c + 320 is not too much for that
  pub along-near : (c s : ℕ) {x : Float} {z : ℤ} → Upto c a x → Units 149 x z → c ≤ 640 → (c + 320) * 2 ^ (a + 149) ≤ 2 ^ (24 + suc s) → (p w : ℕ)
      → Near 149 (header_bits kind * (5 * (0 + 2 ^ (a + 127)) + 2 ^ s)) (along X x p w (header_bits kind)) (along Y z p w (header_bits kind))
  along-near c s u e few-start room p w =
      run-near binary32 a s c 5 (5 * (0 + 2 ^ (a + 127))) _ _ (header_bits kind) u e (λ j k. earn-upto j _ k) (λ j k. earn-near j _ k)
      (omega (arith, header-most kind)) (omega arith) (down (header_bits kind) (header-most kind) (2 ^ (a + 149)) room)
    where
      down : (n : ℕ) → n ≤ 64 → (w : ℕ) {v : ℕ} → (c + 320) * w ≤ v → (c + n * 5) * w ≤ v
      down n l w r = omega (arith, mul-le-mul_right w l)

  -- from 0.0: within 2^(a+9), and 2^(a-16) lost at each step
  pub walk-near : (p w : ℕ) → Near 149 (lost a) (walk single mode kind (lent terms) p w) (walk whole mode kind ints p w)
  walk-near p w =
      near-wider (lost a)
      (along-near 0 (a + 133) upto_zero units-zero (omega arith) (omega (arith, up_by (a + 149) (24 + suc (a + 133)) 9 (omega arith))) p w)
      (all-lost (header_bits kind) (2 ^ (a + 127)) (2 ^ (a + 133)) (lost a) (header-most kind) (up_by (a + 127) (a + 133) 6 (omega arith))
      (up_by (a + 127) (a + 149 - 9) 13 (omega arith)))
    where
      all-lost : (n u v w : ℕ) → n ≤ 64 → v ≡ u * 64 → w ≡ u * 8192 → n * (5 * (0 + u) + v) ≤ w
      all-lost n u v w l d e = omega (arith, mul-le-mul_right (5 * (0 + u) + v) l)
