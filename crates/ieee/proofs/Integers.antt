-- Integers as a sign and a size: sums, negation, order and size by `signed`. Assumes nothing.
use mathlib.Core.Path.{◌≡◌, refl, sym, ap, ap₂, ◌∙◌, subst}
use Prim.Native.Nat.{ℕ, zero, suc, ◌+◌, ◌-◌, ◌*◌, ◌≤◌, ◌<◌}
use mathlib.Core.Logic.{inl, inr}
use native.Mathlib.Nat.{le_refl, le_trans, le_of_eq, le_of_lt, eq-or-lt_of_le, zero-add, mul-zero}
use native.Mathlib.Omega.{arith}
use mathlib.Core.Bool.{Bool, true, false, not, cond}
use lib.Dec.{T, ltb, ltb→lt, lt→ltb, nltb→le, leb-suc-zero, leb-suc-suc}
use lib.IntN.{ℤ, pos, negsuc, neg_ℤ, nat_abs, ◌+ℤ◌, ◌-ℤ◌, ◌*ℤ◌, neg_ℤ-+ℤ, +ℤ_comm, +ℤ_assoc, suc_ℤ-*ℤ, zero-*ℤ, *ℤ-zero, pos-*ℤ-pos, pos-*ℤ-negsuc}
use lib.Signed.{lt_z}
use lib.Ieee.{below}
use lib.Ieee.Bits.{is_true}
use Rattle.ieee.specs.Whole.{signed}

-- ---- a sign and a size
pub abs-signed : (s : Bool) (n : ℕ) → nat_abs (signed s n) ≡ n
abs-signed false n = refl
abs-signed true zero = refl
abs-signed true (suc n) = refl

pub neg-signed : (s : Bool) (n : ℕ) → neg_ℤ (signed s n) ≡ signed (not s) n
neg-signed false n = refl
neg-signed true zero = refl
neg-signed true (suc n) = refl

abs_neg : (z : ℤ) → nat_abs (neg_ℤ z) ≡ nat_abs z
abs_neg (pos zero) = refl
abs_neg (pos (suc n)) = refl
abs_neg (negsuc n) = refl

-- ---- sums
pub like : (s : Bool) (a b : ℕ) → signed s a +ℤ signed s b ≡ signed s (a + b)
like false a b = refl
like true a b = sym (neg_ℤ-+ℤ (pos a) (pos b))

-- a - b, where a is below b and where it is not
sub-less : (a b : ℕ) → a < b → signed false a +ℤ signed true b ≡ signed true (b - a)
sub-less a zero h = absurd (none a h)
  where
    none : (a : ℕ) → a < 0 → ⊥
    none a h = omega arith
sub-less a (suc b) h = go (ltb a (suc b)) (lt→ltb a (suc b) h)
  where
    one : (a b : ℕ) → a < suc b → suc b - a ≡ suc (suc b - suc a)
    one a b h = omega arith

    go : (c : Bool) → T c → cond c (negsuc (suc b - suc a)) (pos (a - suc b)) ≡ signed true (suc b - a)
    go true t = ap (λ (n : ℕ). signed true n) (sym (one a b h))
    go false t = absurd t

sub_more : (a b : ℕ) → b ≤ a → signed false a +ℤ signed true b ≡ pos (a - b)
sub_more a zero h = ap pos (same a)
  where
    same : (a : ℕ) → a + 0 ≡ a - 0
    same a = omega arith
sub_more a (suc b) h = go (ltb a (suc b)) (ltb→lt a (suc b))
  where
    clash : (a b : ℕ) → b ≤ a → a < b → ⊥
    clash a b h k = omega arith

    go : (c : Bool) → (T c → a < suc b) → cond c (negsuc (suc b - suc a)) (pos (a - suc b)) ≡ pos (a - suc b)
    go true k = absurd (clash a (suc b) h (k tt))
    go false k = refl

-- the same with either sign first, and where the two are equal
pub sub-up : (t : Bool) (a b : ℕ) → a < b → signed (not t) a +ℤ signed t b ≡ signed t (b - a)
sub-up true a b h = sub-less a b h
sub-up false a b h = +ℤ_comm (signed true a) (pos b) ∙ sub_more b a (le_of_lt h)

pub sub-down : (t : Bool) (a b : ℕ) → b ≤ a → signed (not t) a +ℤ signed t b ≡ signed (not t) (a - b)
sub-down true a b h = sub_more a b h
sub-down false a b h =
    +ℤ_comm (signed true a) (pos b)
    ∙ elim (eq-or-lt_of_le h) [
      | inl e ↦ sub_more b a (le_of_eq (sym e)) ∙ ap pos (none b a (sym e)) ∙ ap (λ (n : ℕ). signed true n) (sym (none a b e))
      | inr l ↦ sub-less b a l
    ]
  where
    none : (a b : ℕ) → b ≡ a → a - b ≡ 0
    none a b e = omega arith

-- ---- sizes
less-size : (a b : ℕ) → b - a ≤ a + b
less-size a b = omega arith

more-size : (a b : ℕ) → a - b ≤ a + b
more-size a b = omega arith

-- `elim` on a test, with what it says in each case
pub by-test {ℓ} : {X : Type ℓ} (a b : ℕ) → (a < b → X) → (b ≤ a → X) → X
by-test {X = X} a b f g = go (ltb a b) (ltb→lt a b) (nltb→le a b)
  where
    go : (c : Bool) → (T c → a < b) → (T (not c) → b ≤ a) → X
    go true h k = f (h tt)
    go false h k = g (k tt)

abs-mixed : (a b : ℕ) → nat_abs (signed false a +ℤ signed true b) ≤ a + b
abs-mixed a b =
    by-test a b
    (λ h. subst (λ (z : ℤ). nat_abs z ≤ a + b) (sym (sub-less a b h)) (le_trans (le_of_eq (abs-signed true (b - a))) (less-size a b)))
    (λ h. subst (λ (z : ℤ). nat_abs z ≤ a + b) (sym (sub_more a b h)) (more-size a b))

abs-sum : (s t : Bool) (a b : ℕ) → nat_abs (signed s a +ℤ signed t b) ≤ a + b
abs-sum false false a b = le_refl (a + b)
abs-sum false true a b = abs-mixed a b
abs-sum true false a b = subst (λ (z : ℤ). nat_abs z ≤ a + b) (+ℤ_comm (signed false b) (signed true a)) (le_trans (abs-mixed b a) (omega arith))
abs-sum true true a b = subst (λ (z : ℤ). nat_abs z ≤ a + b) (sym (like true a b)) (le_of_eq (abs-signed true (a + b)))

-- |x + y| ≤ |x| + |y|
pub abs-add : (x y : ℤ) → nat_abs (x +ℤ y) ≤ nat_abs x + nat_abs y
abs-add (pos a) (pos b) = abs-sum false false a b
abs-add (pos a) (negsuc b) = abs-sum false true a (suc b)
abs-add (negsuc a) (pos b) = abs-sum true false (suc a) b
abs-add (negsuc a) (negsuc b) = abs-sum true true (suc a) (suc b)

pub abs-sub : (x y : ℤ) → nat_abs (x -ℤ y) ≤ nat_abs x + nat_abs y
abs-sub x y = le_trans (abs-add x (neg_ℤ y)) (le_of_eq (ap (λ (n : ℕ). nat_abs x + n) (abs_neg y)))

-- ---- sums of sums, and w times a number
pub +ℤ-swap : (a c b d : ℤ) → (a +ℤ c) +ℤ (b +ℤ d) ≡ (a +ℤ b) +ℤ (c +ℤ d)
+ℤ-swap a c b d =
    +ℤ_assoc a c (b +ℤ d)
    ∙ ap (λ (z : ℤ). a +ℤ z) (sym (+ℤ_assoc c b d) ∙ ap (λ (z : ℤ). z +ℤ d) (+ℤ_comm c b) ∙ +ℤ_assoc b c d)
    ∙ sym (+ℤ_assoc a b (c +ℤ d))

pub times-add : (w : ℕ) (a b : ℤ) → pos w *ℤ (a +ℤ b) ≡ pos w *ℤ a +ℤ pos w *ℤ b
times-add zero a b = zero-*ℤ (a +ℤ b) ∙ sym (ap₂ ◌+ℤ◌ (zero-*ℤ a) (zero-*ℤ b))
times-add (suc w) a b =
    suc_ℤ-*ℤ (pos w) (a +ℤ b)
    ∙ ap (λ (z : ℤ). z +ℤ (a +ℤ b)) (times-add w a b)
    ∙ +ℤ-swap (pos w *ℤ a) (pos w *ℤ b) a b
    ∙ sym (ap₂ ◌+ℤ◌ (suc_ℤ-*ℤ (pos w) a) (suc_ℤ-*ℤ (pos w) b))

pub times-signed : (w : ℕ) (s : Bool) (k : ℕ) → pos w *ℤ signed s k ≡ signed s (w * k)
times-signed w false k = pos-*ℤ-pos w k
times-signed w true zero = *ℤ-zero (pos w) ∙ ap (signed true) (sym (mul-zero w))
times-signed w true (suc k) = pos-*ℤ-negsuc w k

pub abs-times : (w : ℕ) (z : ℤ) → nat_abs (pos w *ℤ z) ≡ w * nat_abs z
abs-times w (pos n) = ap nat_abs (pos-*ℤ-pos w n)
abs-times w (negsuc n) = ap nat_abs (pos-*ℤ-negsuc w n) ∙ abs-signed true (w * suc n)

-- ---- order
pub below-is : (s t : Bool) (a b : ℕ) → below s a t b ≡ lt_z (signed s a) (signed t b)
below-is false false a b = refl
below-is false true a zero = sym (leb-suc-zero a)
below-is false true a (suc b) = refl
below-is true false zero b = ap (λ (n : ℕ). ltb 0 n) (zero-add b)
below-is true false (suc a) b = is_true (ltb 0 (suc a + b)) (lt→ltb 0 (suc a + b) (omega arith))
below-is true true zero zero = refl
below-is true true zero (suc b) = leb-suc-zero (suc b)
below-is true true (suc a) zero = is_true (ltb 0 (suc a)) (lt→ltb 0 (suc a) (omega arith))
below-is true true (suc a) (suc b) = leb-suc-suc (suc b) a
