-- TWO WALKS OF ONE WORD. From step 14 on they go through the same registers, whatever states they start from: so their exact scores differ by at most
-- what 28 metrics can be. Assumes nothing.
use Prim.Native.Nat.{ℕ, zero, suc, ◌+◌, ◌-◌, ◌*◌, ◌^◌, ◌≤◌, ◌<◌}
use mathlib.Core.Path.{◌≡◌, refl, sym, ap, ap₂, ◌∙◌, subst}
use mathlib.Core.List.{List}
use native.Mathlib.Nat.{le_trans, le_of_eq}
use native.Mathlib.Omega.{arith}
use lib.ListN.{length}
use lib.IntN.{ℤ, pos, nat_abs, ◌+ℤ◌, ◌-ℤ◌, +ℤ_comm, +ℤ_idr, +ℤ_invr, -ℤ-+ℤ_cancel}
use lib.Ieee.{Float}
use Rattle.ieee.specs.Whole.{run}
use Rattle.ieee.proofs.Integers.{abs-add, abs-sub, +ℤ-swap}
use Rattle.frame.specs.Format.{header_bits}
use Rattle.conv.specs.Encoder.{register, state, walk_register, bit}
use Rattle.conv.proofs.Closed.{ends-made}
use Rattle.model.specs.Metric.{metric_of}
use Rattle.trellis.specs.Trellis.{Trellis}
use Rattle.trellis.specs.Numbers.{whole}
use Rattle.trellis.specs.Terms.{header, UnitTerms}
use Rattle.trellis.specs.Demand.{walk}
use Rattle.trellis.proofs.Paths.{bit-lt}
use Rattle.trellis.proofs.Metric.{step-within}
use Rattle.trellis.proofs.Demand.{header-long}

-- ---- sums

abbrev sum : (ℕ → ℤ) → ℕ → ℤ
sum x n = run ◌+ℤ◌ (pos 0) x n

-- of n numbers, each at most m large
sum-size : (m : ℕ) (x : ℕ → ℤ) (n : ℕ) → ((i : ℕ) → i < n → nat_abs (x i) ≤ m) → nat_abs (sum x n) ≤ n * m
unfolding run
sum-size m x zero h = omega arith
sum-size m x (suc n) h =
    le_trans (abs-add (sum x n) (x n)) (omega (arith, sum-size m x n (λ i l. h i (omega arith)), h n (omega arith)))

-- one sum is another and that of the differences
sum-differs : (x y : ℕ → ℤ) (n : ℕ) → sum x n ≡ sum y n +ℤ sum (λ i. x i -ℤ y i) n
unfolding run
sum-differs x y zero = refl
sum-differs x y (suc n) =
    ap₂ ◌+ℤ◌ (sum-differs x y n) (sym (-ℤ-+ℤ_cancel (x n) (y n)) ∙ +ℤ_comm (x n -ℤ y n) (y n))
    ∙ +ℤ-swap (sum y n) (sum (λ i. x i -ℤ y i) n) (y n) (x n -ℤ y n)

-- nothing is added from place m on
sum-ends : (x : ℕ → ℤ) (m r : ℕ) → ((i : ℕ) → x (m + i) ≡ pos 0) → sum x (m + r) ≡ sum x m
unfolding run
sum-ends x m zero h = let same : m + 0 ≡ m = omega arith in ap (sum x) same
sum-ends x m (suc r) h =
    let more : m + suc r ≡ suc (m + r) = omega arith in
    ap (sum x) more ∙ ap (λ (z : ℤ). sum x (m + r) +ℤ z) (h r) ∙ +ℤ_idr (sum x (m + r)) ∙ sum-ends x m r h

-- ---- walks

module _ (mode kind a : ℕ) (terms : List Float) (ints : ℕ → ℤ) (all : length terms ≡ 260 * header_bits kind) (h : UnitTerms a terms ints) where
  abbrev Y : Trellis ℤ
  Y = header whole mode kind ints

  there : (i : ℕ) → i < 260 * header_bits kind → i < length terms
  there i l = subst (λ (k : ℕ). i < k) (sym all) l

  -- a metric is five terms
  earn-size : (j r : ℕ) → j < header_bits kind → nat_abs (Y.earn j r) ≤ 5 * 2 ^ (a + 149)
  unfolding metric_of
  earn-size j r k =
      sum-size (2 ^ (a + 149)) _ 5 (λ i l. h.small _ (there _ (step-within mode kind j r i k l)))

  -- the word w, from p and from t
  module _ (w p t : ℕ) (hp : p < 16384) (ht : t < 16384) where
    abbrev earned : ℕ → ℕ → ℤ
    earned q j = Y.earn j (walk_register 16384 q (bit w) j)

    abbrev differs : ℕ → ℤ
    differs j = earned p j -ℤ earned t j

    later : (r : ℕ) → differs (14 + r) ≡ pos 0
    later r =
        let long : 14 ≤ 14 + r = omega arith in
        let met : state 16384 p (bit w) (14 + r) ≡ state 16384 t (bit w) (14 + r) =
        ends-made (bit w) (bit-lt w) 14 p (14 + r) hp long ∙ sym (ends-made (bit w) (bit-lt w) 14 t (14 + r) ht long) in
        ap (λ (s : ℕ). Y.earn (14 + r) (register s (bit w (14 + r))) -ℤ earned t (14 + r)) met ∙ +ℤ_invr (earned t (14 + r))

    -- how far the walk from p is above the one from t
    pub apart : ℤ
    apart = sum differs (header_bits kind)

    pub walks-apart : walk whole mode kind ints p w ≡ walk whole mode kind ints t w +ℤ apart
    unfolding apart
    walks-apart = sum-differs (earned p) (earned t) (header_bits kind)

    pub apart-size : nat_abs apart ≤ 140 * 2 ^ (a + 149)
    unfolding apart
    apart-size =
        let n = header_bits kind in
        let split : n ≡ 14 + (n - 14) = omega (arith, header-long kind) in
        let ends : sum differs n ≡ sum differs 14 = ap (sum differs) split ∙ sum-ends differs 14 (n - 14) later in
        le_trans (le_of_eq (ap nat_abs ends))
        (le_trans (sum-size (10 * 2 ^ (a + 149)) differs 14 (λ j l. each j (omega (arith, header-long kind)))) (omega arith))
      where
        each : (j : ℕ) → j < header_bits kind → nat_abs (differs j) ≤ 10 * 2 ^ (a + 149)
        each j l =
            let from-p : nat_abs (earned p j) ≤ 5 * 2 ^ (a + 149) = earn-size j _ l in
            let from-t : nat_abs (earned t j) ≤ 5 * 2 ^ (a + 149) = earn-size j _ l in
            le_trans (abs-sub (earned p j) (earned t j)) (omega (arith, from-p, from-t))
