-- Whole terms are exact terms too, in units of 2^-149: every score is demand 3's, 2^149 times. Assumes nothing.
use Prim.Native.Nat.{ℕ, zero, suc, ◌^◌, ◌≤◌}
use mathlib.Core.Path.{◌≡◌, refl, sym, ap₂, ◌∙◌}
use mathlib.Core.List.{List}
use native.Mathlib.Nat.{le_trans, le_of_eq, mul_comm, mul-le-mul_right}
use lib.Pow.{pow-add}
use lib.IntN.{ℤ, pos, nat_abs, ◌+ℤ◌, ◌*ℤ◌, *ℤ-zero}
use lib.Ieee.{Float}
use Rattle.ieee.specs.Whole.{run}
use Rattle.ieee.proofs.Integers.{times-add, abs-times}
use Rattle.ieee.proofs.Units.{units-whole}
use Rattle.frame.specs.Format.{header_bits}
use Rattle.model.specs.Metric.{metric_of}
use Rattle.trellis.specs.Numbers.{whole}
use Rattle.trellis.specs.Terms.{header, WholeTerms, UnitTerms}
use Rattle.trellis.specs.Demand.{walk}

-- the terms w times
abbrev pub times : ℕ → (ℕ → ℤ) → ℕ → ℤ
times w ints i = pos w *ℤ ints i

run-times : (w : ℕ) (x z : ℕ → ℤ) → ((i : ℕ) → x i ≡ pos w *ℤ z i) → (n : ℕ) → run ◌+ℤ◌ (pos 0) x n ≡ pos w *ℤ run ◌+ℤ◌ (pos 0) z n
unfolding run
run-times w x z h zero = sym (*ℤ-zero (pos w))
run-times w x z h (suc n) = ap₂ ◌+ℤ◌ (run-times w x z h n) (h n) ∙ sym (times-add w (run ◌+ℤ◌ (pos 0) z n) (z n))

module _ (mode kind w : ℕ) (ints : ℕ → ℤ) where
  earn-times : (j r : ℕ) → (header whole mode kind (times w ints)).earn j r ≡ pos w *ℤ (header whole mode kind ints).earn j r
  unfolding metric_of
  earn-times j r = run-times w _ _ (λ i. refl) 5

  pub walk-times : (p v : ℕ) → walk whole mode kind (times w ints) p v ≡ pos w *ℤ walk whole mode kind ints p v
  walk-times p v = run-times w _ _ (λ j. earn-times j _) (header_bits kind)

pub whole-units : {b : ℕ} {terms : List Float} {ints : ℕ → ℤ} (a : ℕ) → WholeTerms b terms ints → b ≤ 2 ^ a → UnitTerms a terms (times (2 ^ 149) ints)
whole-units {b} {terms} {ints} a h l =
    record {
      units = λ i k. units-whole 149 (h.whole i k);
      small = λ i k.
          le_trans (le_of_eq (abs-times (2 ^ 149) (ints i) ∙ mul_comm (2 ^ 149) (nat_abs (ints i))))
          (le_trans (mul-le-mul_right (2 ^ 149) (le_trans (h.small i k) l)) (le_of_eq (sym (pow-add 2 a 149))));
    }
