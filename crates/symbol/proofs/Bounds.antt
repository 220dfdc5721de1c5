-- Bounds of log-sums, metrics and soft bits of 32 values that are bounded: in range, so no NaN. A log-sum grows by `lse`, and
-- lse's `Bounds` has each step. Assumes nothing.
use Prim.Native.Nat.{ℕ, zero, suc, ◌^◌, ◌≤◌, ◌<◌}
use mathlib.Core.Bool.{Bool, true, false, not}
use mathlib.Core.Logic.{◌⊎◌, inl, inr, ⊎_elim}
use mathlib.Core.Path.{◌≡◌, refl, sym, ap, subst, ◌∙◌}
use native.Mathlib.Nat.{not-suc-le-zero, eq-or-lt_of_le}
use native.Mathlib.Omega.{arith}
use lib.Dec.{T, eqb, lit<, lit≤}
use lib.Pow.{pow-lt}
use lib.Ieee.{Float, binary32, sub, le, is_nan}
use lib.Ieee.Scale.{finite}
use Rattle.util.specs.Choose.{choose}
use Rattle.util.specs.Gray.{gray_of}
use Rattle.ieee.specs.Whole.{run}
use Rattle.ieee.specs.Within.{Within, larger}
use Rattle.ieee.proofs.Folds.{run-keeps}
use Rattle.ieee.proofs.Order.{finite-not-nan, le_trans}
use Rattle.ieee.proofs.Intervals.{larger-one, larger-above, clamp-in}
use Rattle.lse.specs.Lse.{float32, negative, minus_infinity, lse_of}
use Rattle.lse.proofs.Bounds.{low_end, high_end, higher, wide, wide-finite, gap-finite, gap-nonpos, lse-in, lse-left}
use Rattle.symbol.specs.Symbol.{greatest_of, metric_out, log_sum, bit_of, soft_bit}

-- a metric out may be summed as a value may
pub out-in : (x : Float) → Within (negative 40) (float32 0) x → Within low_end (high_end 0) x
unfolding low_end high_end float32 negative le
out-in x w = record { from = le_trans low_end (negative 40) x tt w.from; to = le_trans x (float32 0) (high_end 0) w.to tt }

-- ---- both bits occur among the 32 values, plain and Gray
below-five : (P : ℕ → Type 0) → P 0 → P 1 → P 2 → P 3 → P 4 → (k : ℕ) → k < 5 → P k
below-five P a b c d e zero h = a
below-five P a b c d e (suc zero) h = b
below-five P a b c d e (suc (suc zero)) h = c
below-five P a b c d e (suc (suc (suc zero))) h = d
below-five P a b c d e (suc (suc (suc (suc zero)))) h = e
below-five P a b c d e (suc (suc (suc (suc (suc k))))) h = absurd (omega arith)

bit-zero : (gray : Bool) (k : ℕ) → k < 5 → eqb (bit_of gray k 0) 0 ≡ true
unfolding gray_of
bit-zero true k h = below-five (λ k. eqb (bit_of true k 0) 0 ≡ true) refl refl refl refl refl k h
bit-zero false k h = below-five (λ k. eqb (bit_of false k 0) 0 ≡ true) refl refl refl refl refl k h

bit-one : (gray : Bool) (k : ℕ) → k < 5 → eqb (bit_of gray k (2 ^ k)) 1 ≡ true
unfolding gray_of
bit-one true k h = below-five (λ k. eqb (bit_of true k (2 ^ k)) 1 ≡ true) refl refl refl refl refl k h
bit-one false k h = below-five (λ k. eqb (bit_of false k (2 ^ k)) 1 ≡ true) refl refl refl refl refl k h

power_below : (k : ℕ) → k < 5 → 2 ^ k < 32
power_below k h = pow-lt h

-- ---- log-sums, metrics and soft bits of 32 bounded values
module _ (values : ℕ → Float) (bounded : (v : ℕ) → v < 32 → Within low_end (high_end 0) (values v)) where
  module _ (bit : ℕ → ℕ) (b : ℕ) where
    abbrev so_far : ℕ → Float
    so_far n = log_sum bit b values n

    -- with one value more, where the test holds
    abbrev grown : Bool → ℕ → Float
    grown t n = choose t (lse_of (so_far n) (values n)) (so_far n)

    -- a value more, on a log-sum that is empty or in range
    added : (n : ℕ) → n < 32 → (so_far n ≡ minus_infinity) ⊎ Within low_end (high_end n) (so_far n) → Within low_end (high_end (suc n)) (lse_of (so_far n) (values n))
    added n h (inl e) =
        let alone : lse_of (so_far n) (values n) ≡ values n = ap (λ (z : Float). lse_of z (values n)) e ∙ lse-left (values n) in
        higher 0 (suc n) _ (omega arith) (omega arith) (subst (λ (z : Float). Within low_end (high_end 0) z) (sym alone) (bounded n h))
    added n h (inr w) = lse-in n (so_far n) (values n) (omega arith) w (higher 0 n (values n) (omega arith) (omega arith) (bounded n h))

    empty-or : (n : ℕ) → n ≤ 32 → (so_far n ≡ minus_infinity) ⊎ Within low_end (high_end n) (so_far n)
    unfolding log_sum
    empty-or zero h = inl refl
    empty-or (suc n) h = go (eqb (bit n) b) (empty-or n (omega arith))
      where
        go : (t : Bool) → (so_far n ≡ minus_infinity) ⊎ Within low_end (high_end n) (so_far n)
            → (grown t n ≡ minus_infinity) ⊎ Within low_end (high_end (suc n)) (grown t n)
        go true s = inr (added n (omega arith) s)
        go false (inl e) = inl e
        go false (inr w) = inr (higher n (suc n) (so_far n) (omega arith) (omega arith) w)

    -- with a value that has the bit it is in range
    sum-in : (n w : ℕ) → n ≤ 32 → w < n → eqb (bit w) b ≡ true → Within low_end (high_end n) (so_far n)
    unfolding log_sum
    sum-in zero w h l e = absurd (not-suc-le-zero l)
    sum-in (suc n) w h l e = ⊎_elim here (λ q. there (eqb (bit n) b) (sum-in n w (omega arith) q e)) (eq-or-lt_of_le le-n)
      where
        le-n : w ≤ n
        le-n = omega arith

        here : w ≡ n → Within low_end (high_end (suc n)) (grown (eqb (bit n) b) n)
        here q =
            subst (λ (t : Bool). Within low_end (high_end (suc n)) (grown t n)) (sym e ∙ ap (λ (k : ℕ). eqb (bit k) b) q)
            (added n (omega arith) (empty-or n (omega arith)))

        there : (t : Bool) → Within low_end (high_end n) (so_far n) → Within low_end (high_end (suc n)) (grown t n)
        there true s = added n (omega arith) (inr s)
        there false s = higher n (suc n) (so_far n) (omega arith) (omega arith) s

  twelve : T (le (negative 12) (float32 12))
  unfolding float32 negative le
  twelve = tt

  -- soft bits lie in -12..12
  pub soft-in : (gray : Bool) (k : ℕ) → k < 5 → Within (negative 12) (float32 12) (soft_bit gray k values)
  unfolding soft_bit
  soft-in gray k h =
      let zeros = sum-in (bit_of gray k) 0 32 0 (lit≤ tt) (lit< tt) (bit-zero gray k h) in
      let ones = sum-in (bit_of gray k) 1 32 (2 ^ k) (lit≤ tt) (power_below k h) (bit-one gray k h) in
      let x = sub binary32 (log_sum (bit_of gray k) 0 values 32) (log_sum (bit_of gray k) 1 values 32) in
      let F = gap-finite _ _ (wide 32 _ (lit≤ tt) zeros) (wide 32 _ (lit≤ tt) ones) in
      clamp-in (negative 12) (float32 12) x twelve (finite-not-nan x F)

  value-finite : (v : ℕ) → v < 32 → T (finite (values v))
  value-finite v h = wide-finite (values v) (wide 0 (values v) (lit≤ tt) (bounded v h))

  -- the greatest is one of them, and none is above it
  most-in : (n : ℕ) → n ≤ 32 → Within low_end (high_end 0) (run larger (values 0) values n)
  most-in n h =
      run-keeps (λ (m : Float). Within low_end (high_end 0) m) larger (values 0) values n (bounded 0 (lit< tt))
      (λ i m l w. larger-one (λ z. Within low_end (high_end 0) z) m (values i) w (bounded i (omega arith)))

  most-plain : (n : ℕ) → n ≤ 32 → T (not (is_nan (run larger (values 0) values n)))
  most-plain n h = finite-not-nan _ (wide-finite _ (wide 0 _ (lit≤ tt) (most-in n h)))

  most-above : (n v : ℕ) → n ≤ 32 → v < n → T (le (values v) (run larger (values 0) values n))
  unfolding run
  most-above zero v h l = absurd (not-suc-le-zero l)
  most-above (suc n) v h l = ⊎_elim here (λ q. le_trans (values v) m _ (most-above n v (omega arith) q) two.0) (eq-or-lt_of_le le-n)
    where
      le-n : v ≤ n
      le-n = omega arith

      m : Float
      m = run larger (values 0) values n

      two : T (le m (larger m (values n))) × T (le (values n) (larger m (values n)))
      two = larger-above m (values n) (most-plain n (omega arith)) (finite-not-nan (values n) (value-finite n (omega arith)))

      here : v ≡ n → T (le (values v) (larger m (values n)))
      here q = subst (λ (k : ℕ). T (le (values k) (larger m (values n)))) (sym q) two.1

  forty : T (le (negative 40) (float32 0)) × T (not (is_nan (negative 40)))
  unfolding float32 negative le is_nan
  forty = (tt, tt)

  -- metrics out lie in -40..0
  pub metric-in : (v : ℕ) → v < 32 → Within (negative 40) (float32 0) (metric_out values v)
  unfolding metric_out greatest_of
  metric-in v h =
      let g = run larger (values 0) values 32 in
      let own = wide 0 (values v) (lit≤ tt) (bounded v h) in
      let most = wide 0 g (lit≤ tt) (most-in 32 (lit≤ tt)) in
      let x = sub binary32 (values v) g in
      record {
        from = (larger-above x (negative 40) (finite-not-nan x (gap-finite (values v) g own most)) forty.1).1;
        to = larger-one (λ z. T (le z (float32 0))) x (negative 40)
            (gap-nonpos (values v) g (wide-finite (values v) own) (wide-finite g most) (most-above 32 v (lit≤ tt) h)) forty.0;
      }
