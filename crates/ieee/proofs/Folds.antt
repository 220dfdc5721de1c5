-- Runs from the left. Of any operation: one step more, equal terms, what each step keeps. Of whole floats: the sum is the integers' sum, as a float,
-- of the size that the terms allow, and each step is exact, since the partial sums stay within 2 ^ prec. Assumes nothing.
use mathlib.Core.Path.{◌≡◌, refl, sym, ap, ap₂, ◌∙◌}
use Prim.Native.Nat.{ℕ, zero, suc, ◌+◌, ◌*◌, ◌^◌, ◌≤◌, ◌<◌}
use native.Mathlib.Nat.{le_refl, le_trans}
use native.Mathlib.Numerals.{add-one}
use native.Mathlib.Omega.{arith}
use lib.IntN.{ℤ, pos, nat_abs, ◌+ℤ◌}
use lib.Ieee.{Float, Format, binary32, binary64, prec, add, of_int}
use Rattle.ieee.specs.Whole.{plus_zero, Whole, run}
use Rattle.ieee.proofs.Integers.{abs-add}
use Rattle.ieee.proofs.Values.{add-of_int}

-- one step more
pub run-next : {A : Type 0} (op : A → A → A) (a : A) (x : ℕ → A) (n : ℕ) → run op a x (n + 1) ≡ op (run op a x n) (x n)
unfolding run
run-next op a x n = ap (run op a x) (add-one n)

-- what is passed so far, and one more
pub run-further : {A : Type 0} (op : A → A → A) (a : A) (x : ℕ → A) (n : ℕ) {s : A} → s ≡ run op a x n → op s (x n) ≡ run op a x (n + 1)
run-further {A} op a x n e = ap (λ (s : A). op s (x n)) e ∙ sym (run-next op a x n)

-- equal terms
pub run-same : {A : Type 0} (op : A → A → A) (a : A) (x y : ℕ → A) (n : ℕ) → ((i : ℕ) → i < n → x i ≡ y i) → run op a x n ≡ run op a y n
unfolding run
run-same op a x y zero e = refl
run-same op a x y (suc n) e = ap₂ op (run-same op a x y n (λ i h. e i (omega arith))) (e n (omega arith))

-- what the start has, and each step keeps, the run has
pub run-keeps : {A : Type 0} (P : A → Type 0) (op : A → A → A) (a : A) (x : ℕ → A) (n : ℕ) → P a → ((i : ℕ) (p : A) → i < n → P p → P (op p (x i)))
    → P (run op a x n)
unfolding run
run-keeps P op a x zero s step = s
run-keeps P op a x (suc n) s step = step n (run op a x n) (omega arith) (run-keeps P op a x n s (λ i p h. step i p (omega arith)))

-- ---- whole floats
-- from any integer's float
pub run-whole : (f : Format) (b c : ℕ) (a : ℤ) (x : ℕ → Float) (z : ℕ → ℤ) (n : ℕ) → nat_abs a ≤ c
    → ((i : ℕ) → i < n → Whole (x i) (z i) × (nat_abs (z i) ≤ b)) → c + b * n ≤ 2 ^ prec f
    → (run (add f) (of_int f a) x n ≡ of_int f (run ◌+ℤ◌ a z n)) × (nat_abs (run ◌+ℤ◌ a z n) ≤ c + b * n)
unfolding run
run-whole f b c a x z zero h w k = (refl, omega arith)
run-whole f b c a x z (suc n) h w k =
    let ih = run-whole f b c a x z n h (λ i l. w i (omega arith)) (omega arith) in
    let t = w n (le_refl (suc n)) in
    let s = run ◌+ℤ◌ a z n in
    let before : nat_abs s ≤ 2 ^ prec f = le_trans ih.1 (omega arith) in
    let size : nat_abs (s +ℤ z n) ≤ c + b * suc n = le_trans (abs-add s (z n)) (omega (arith, ih.1, t.1)) in
    (ap (λ (y : Float). add f y (x n)) ih.0 ∙ add-of_int f s before t.0 (le_trans size k), size)

zero_is : (f : Format) → plus_zero ≡ of_int f (pos 0)
unfolding of_int
zero_is binary32 = refl
zero_is binary64 = refl

-- from 0.0
pub run-zero : (f : Format) (b : ℕ) (x : ℕ → Float) (z : ℕ → ℤ) (n : ℕ) → ((i : ℕ) → i < n → Whole (x i) (z i) × (nat_abs (z i) ≤ b)) → b * n ≤ 2 ^ prec f
    → (run (add f) plus_zero x n ≡ of_int f (run ◌+ℤ◌ (pos 0) z n)) × (nat_abs (run ◌+ℤ◌ (pos 0) z n) ≤ b * n)
run-zero f b x z n w k =
    let r = run-whole f b 0 (pos 0) x z n (omega arith) w (omega arith) in
    (ap (λ (a : Float). run (add f) a x n) (zero_is f) ∙ r.0, omega (arith, r.1))
