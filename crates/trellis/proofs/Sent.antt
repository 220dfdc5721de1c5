-- What a closed word scores is what its sent symbols earn. Every step has a slot of its own, so the sum over the steps is the sum over the
-- symbols: both are the sum of all steps and symbols that belong together. Assumes nothing.
use Prim.Native.Nat.{ℕ, zero, suc, ◌<◌}
use mathlib.Core.Path.{◌≡◌, refl, sym, ap, ap₂, ◌∙◌}
use native.Mathlib.Decide.{ℕ_discrete}
use native.Mathlib.Omega.{arith}
use borrow.Author.Tests.{eq-eqb, ne_eqb}
use lib.Dec.{eqb}
use lib.IntN.{ℤ, pos, ◌+ℤ◌, +ℤ_assoc, +ℤ_comm, +ℤ_idl, +ℤ_idr}
use Rattle.ieee.specs.Whole.{run}
use Rattle.ieee.proofs.Folds.{run-same}
use Rattle.util.specs.Choose.{choose}
use Rattle.frame.specs.Format.{format_of, header_bits}
use Rattle.frame.specs.Air.{slot_of}
use Rattle.frame.proofs.Air.{slot-within, slots-differ}
use Rattle.frame.proofs.Onto.{every-slot}
use Rattle.conv.specs.Encoder.{bit}
use Rattle.conv.specs.Sent.{step_label}
use Rattle.conv.proofs.Slots.{labels_at}
use Rattle.trellis.specs.Scale.{Scale, sum}
use Rattle.trellis.specs.Numbers.{whole}
use Rattle.trellis.specs.Terms.{metric}
use Rattle.trellis.specs.Demand.{closed, symbol_earns}

-- ---- sums

sum-cong : {x y : ℕ → ℤ} (n : ℕ) → ((i : ℕ) → i < n → x i ≡ y i) → sum whole x n ≡ sum whole y n
sum-cong n h = run-same ◌+ℤ◌ (pos 0) _ _ n h

sum-none : (n : ℕ) → sum whole (λ i. pos 0) n ≡ pos 0
unfolding run
sum-none zero = refl
sum-none (suc n) = +ℤ_idr (sum whole (λ i. pos 0) n) ∙ sum-none n

sum_both : (x y : ℕ → ℤ) (n : ℕ) → sum whole (λ i. x i +ℤ y i) n ≡ sum whole x n +ℤ sum whole y n
unfolding run
sum_both x y zero = refl
sum_both x y (suc n) =
    let a = sum whole x n in
    let b = sum whole y n in
    ap (λ (z : ℤ). z +ℤ (x n +ℤ y n)) (sum_both x y n) ∙ +ℤ_assoc a b (x n +ℤ y n)
    ∙ ap (λ (z : ℤ). a +ℤ z) (sym (+ℤ_assoc b (x n) (y n)) ∙ ap (λ (z : ℤ). z +ℤ y n) (+ℤ_comm b (x n)) ∙ +ℤ_assoc (x n) b (y n))
    ∙ sym (+ℤ_assoc a (x n) (b +ℤ y n))

sum-turned : (f : ℕ → ℕ → ℤ) (m n : ℕ) → sum whole (λ i. sum whole (f i) n) m ≡ sum whole (λ j. sum whole (λ i. f i j) m) n
unfolding run
sum-turned f zero n = sym (sum-none n)
sum-turned f (suc m) n = ap (λ (z : ℤ). z +ℤ sum whole (f m) n) (sum-turned f m n) ∙ sym (sum_both (λ j. sum whole (λ i. f i j) m) (f m) n)

-- all but one are 0
only_at : ℕ → (ℕ → ℤ) → ℕ → ℤ
only_at a x i = choose (eqb a i) (x i) (pos 0)

only-off : (a : ℕ) (x : ℕ → ℤ) (i : ℕ) → (a ≡ i → ⊥) → only_at a x i ≡ pos 0
unfolding only_at
only-off a x i off = rw (ne_eqb a i off) refl

only-on : (a : ℕ) (x : ℕ → ℤ) → only_at a x a ≡ x a
unfolding only_at
only-on a x = rw (eq-eqb a a refl) refl

sum-only : (a : ℕ) (x : ℕ → ℤ) (n : ℕ) → a < n → sum whole (only_at a x) n ≡ x a
unfolding run
sum-only a x zero h = absurd (omega arith)
sum-only a x (suc n) h = go (ℕ_discrete a n) (λ l. sum-only a x n l)
  where
    go : Dec (a ≡ n) → (a < n → sum whole (only_at a x) n ≡ x a) → sum whole (only_at a x) n +ℤ only_at a x n ≡ x a
    go (yes e) ih =
        ap₂ ◌+ℤ◌ (sum-cong n (λ i l. only-off a x i (λ q. omega arith)) ∙ sum-none n) (ap (only_at a x) (sym e) ∙ only-on a x) ∙ +ℤ_idl (x a)
    go (no off) ih = ap₂ ◌+ℤ◌ (ih (omega arith)) (only-off a x n off) ∙ +ℤ_idr (x a)

-- ---- over the steps, or over the symbols

module _ (n : ℕ) (g : ℕ → ℤ) where
  -- for a symbol, the one step whose slot it is
  one-step : (s : ℕ) → s < n → sum whole (λ j. only_at (slot_of n j) g s) n ≡ g s
  one-step s h =
      let (j, l, e) = every-slot n s h in
      sum-cong n (λ i k. same j l e i k) ∙ sum-only j (λ i. g s) n l
    where
      same : (j : ℕ) → j < n → slot_of n j ≡ s → (i : ℕ) → i < n → only_at (slot_of n i) g s ≡ only_at j (λ i. g s) i
      same j l e i k = go (ℕ_discrete j i)
        where
          go : Dec (j ≡ i) → only_at (slot_of n i) g s ≡ only_at j (λ i. g s) i
          go (yes q) =
              ap (λ (x : ℕ). only_at x g s) (ap (slot_of n) (sym q) ∙ e) ∙ only-on s g ∙ sym (only-on i (λ i. g s))
              ∙ ap (λ (x : ℕ). only_at x (λ i. g s) i) (sym q)
          go (no off) = only-off (slot_of n i) g s (λ q. off (slots-differ n j i l k (e ∙ sym q))) ∙ sym (only-off j (λ i. g s) i off)

  over-symbols : sum whole (λ j. g (slot_of n j)) n ≡ sum whole g n
  over-symbols =
      sum-cong n (λ j h. sym (sum-only (slot_of n j) g n (slot-within n j h))) ∙ sum-turned (λ j s. only_at (slot_of n j) g s) n n
      ∙ sum-cong n (λ s h. one-step s h)

-- a closed word scores what the symbols sent earn, added in the order of the steps: step j's label stands in its slot
pub sent-in-steps : {A : Type 0} (S : Scale A) (mode kind : ℕ) (terms : ℕ → A) (w : ℕ)
    → closed S mode kind terms w ≡ sum S (λ j. symbol_earns S mode kind terms w (slot_of (header_bits kind) j)) (header_bits kind)
unfolding step_label
sent-in-steps S mode kind terms w =
    let n = header_bits kind in
    run-same S.add S.nil _ _ n (λ j h. ap (metric S (format_of mode).bins terms (slot_of n j)) (sym (labels_at n (bit w) j h)))

-- and of whole numbers in any order: the sum over the header's symbols of the metric of the value sent there
pub sent-earns : (mode kind : ℕ) (ints : ℕ → ℤ) (w : ℕ) → closed whole mode kind ints w ≡ sum whole (symbol_earns whole mode kind ints w) (header_bits kind)
sent-earns mode kind ints w = sent-in-steps whole mode kind ints w ∙ over-symbols (header_bits kind) (symbol_earns whole mode kind ints w)
