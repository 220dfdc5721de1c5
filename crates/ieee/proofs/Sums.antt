-- Whole floats add, subtract and compare as the integers do, in either format, while the result's size is at most
-- 2 ^ prec: 2 ^ 24 for f32, 2 ^ 53 for f64. The exact sum is a whole number at the common denominator, and `round` leaves
-- it as it is. Assumes nothing.
use mathlib.Core.Path.{◌≡◌, refl, sym, ap, ap₂, ◌∙◌, subst, subst₂}
use Prim.Native.Nat.{ℕ, zero, suc, ◌+◌, ◌-◌, ◌*◌, ◌^◌, ◌≤◌, ◌<◌}
use native.Mathlib.Nat.{le_trans, le_of_eq, mul_assoc, mul_comm, mul_right_comm, mul-one, add-mul}
use native.Mathlib.Nat.{mul-pos, le_of_mul-le-mul_right, lt_of_mul-lt-mul_right, zero-lt-suc, zero-mul, mul-sub, mul-lt-mul_of_pos_right}
use native.Mathlib.Omega.{arith}
use mathlib.Core.Bool.{Bool, true, false, not, cond}
use lib.Dec.{T, ltb, ltb→lt, lt→ltb, nltb→le, not_T}
use lib.IntN.{ℤ, neg_ℤ, nat_abs, ◌+ℤ◌, ◌-ℤ◌}
use lib.Signed.{lt_z, le_z, le_z_yes, lt_z_yes, lt_z_no, clash_ℤ}
use lib.Ieee.{Float, nan, inf, fin, Format, prec, up, down, round, sum, add, sub, neg, below, lt, le}
use lib.Ieee.Fits.{down_pos}
use lib.Ieee.Exact.{HasValue}
use lib.Ieee.Bits.{is_true}
use lib.Ieee.Scale.{finite, round_same}
use lib.Ieee.Back.{round_whole}
use Rattle.ieee.specs.Whole.{signed, Whole, whole}
use Rattle.ieee.proofs.Integers.{abs-signed, neg-signed, like, sub-up, sub-down, below-is}
use Rattle.ieee.proofs.Order.{finite-not-nan, not-lt→le, le→not-lt}

-- ---- a fraction that is the whole number n, rounded
pub of-value : (x : Float) (s : Bool) (n : ℕ) → HasValue x s n 1 → Whole x (signed s n)
of-value nan s n v = absurd v
of-value (inf t) s n v = absurd v
of-value (fin t m e) s n v = subst (λ (u : Bool). Whole (fin t m e) (signed u n)) v.0 (whole t m e n (sym (mul-one (m * up e)) ∙ v.1))

round-of : (f : Format) (s : Bool) (num c n : ℕ) → 0 < c → num ≡ n * c → n ≤ 2 ^ prec f → Whole (round f s num c) (signed s n)
round-of f s num c n C e h =
    subst (λ (x : Float). Whole x (signed s n)) (sym (round_same f s num c n 1 C (zero-lt-suc 0) (mul-one num ∙ e)))
    (of-value (round f s n 1) s n (round_whole f s n h))

-- ---- the sum, at a common denominator c
pub sub-mul : (a b c : ℕ) → a * c - b * c ≡ (a - b) * c
sub-mul a b c = ap (λ (n : ℕ). n - b * c) (mul_comm a c) ∙ ap (λ (n : ℕ). c * a - n) (mul_comm b c) ∙ sym (mul-sub c a b) ∙ mul_comm c (a - b)

no_sign : (s u : Bool) (n : ℕ) → (0 < n → s ≡ u) → signed s n ≡ signed u n
no_sign false false n h = refl
no_sign true true n h = refl
no_sign false true zero h = refl
no_sign false true (suc n) h = ap (λ (s : Bool). signed s (suc n)) (h (zero-lt-suc n))
no_sign true false zero h = refl
no_sign true false (suc n) h = ap (λ (s : Bool). signed s (suc n)) (h (zero-lt-suc n))

-- unlike signs. u is the sign of a zero: it is free
apart : (f : Format) (t u : Bool) (a b c : ℕ) → 0 < c → nat_abs (signed (not t) a +ℤ signed t b) ≤ 2 ^ prec f → (b * c < a * c → u ≡ not t)
    → Whole (cond (ltb (a * c) (b * c)) (round f t (b * c - a * c) c) (round f u (a * c - b * c) c)) (signed (not t) a +ℤ signed t b)
apart f t u a b c C h k = go (ltb (a * c) (b * c)) (ltb→lt (a * c) (b * c)) (nltb→le (a * c) (b * c))
  where
    up-case : a < b → Whole (round f t (b * c - a * c) c) (signed (not t) a +ℤ signed t b)
    up-case l =
        let e = sub-up t a b l in
        subst (λ (z : ℤ). Whole (round f t (b * c - a * c) c) z) (sym e)
        (round-of f t (b * c - a * c) c (b - a) C (sub-mul b a c) (le_trans (le_of_eq (sym (abs-signed t (b - a)) ∙ ap nat_abs (sym e))) h))

    down-case : b ≤ a → Whole (round f u (a * c - b * c) c) (signed (not t) a +ℤ signed t b)
    down-case l =
        let e = sub-down t a b l in
        subst (λ (z : ℤ). Whole (round f u (a * c - b * c) c) z) (no_sign u (not t) (a - b) (λ g. k (mul-lt-mul_of_pos_right (more a b g) C)) ∙ sym e)
        (round-of f u (a * c - b * c) c (a - b) C (sub-mul a b c) (le_trans (le_of_eq (sym (abs-signed (not t) (a - b)) ∙ ap nat_abs (sym e))) h))
      where
        more : (a b : ℕ) → 0 < a - b → b < a
        more a b g = omega arith

    go : (v : Bool) → (T v → a * c < b * c) → (T (not v) → b * c ≤ a * c)
        → Whole (cond v (round f t (b * c - a * c) c) (round f u (a * c - b * c) c)) (signed (not t) a +ℤ signed t b)
    go true p q = up-case (lt_of_mul-lt-mul_right c (p tt))
    go false p q = down-case (le_of_mul-le-mul_right (q tt) C)

sum-whole : (f : Format) (s t : Bool) (a b c : ℕ) → 0 < c → nat_abs (signed s a +ℤ signed t b) ≤ 2 ^ prec f
    → Whole (sum f s (a * c) t (b * c) c) (signed s a +ℤ signed t b)
unfolding sum
sum-whole f false false a b c C h = round-of f false (a * c + b * c) c (a + b) C (sym (add-mul a b c)) h
sum-whole f true true a b c C h =
    subst (λ (z : ℤ). Whole (round f true (a * c + b * c) c) z) (sym (like true a b))
    (round-of f true (a * c + b * c) c (a + b) C (sym (add-mul a b c))
    (le_trans (le_of_eq (sym (abs-signed true (a + b)) ∙ ap nat_abs (sym (like true a b)))) h))
sum-whole f false true a b c C h = apart f true false a b c C h (λ _. refl)
sum-whole f true false a b c C h = apart f false (ltb (b * c) (a * c)) a b c C h (λ g. is_true (ltb (b * c) (a * c)) (lt→ltb (b * c) (a * c) g))

-- ---- add, sub, neg
-- one more factor on a whole number's equation
pub left : (x a c d : ℕ) → x ≡ a * c → x * d ≡ a * (c * d)
left x a c d e = ap (λ (n : ℕ). n * d) e ∙ mul_assoc a c d

pub right : (x a c d : ℕ) → x ≡ a * d → x * c ≡ a * (c * d)
right x a c d e = ap (λ (n : ℕ). n * c) e ∙ mul_right_comm a d c ∙ mul_assoc a c d

pub add-whole : (f : Format) {x y : Float} {a b : ℤ} → Whole x a → Whole y b → nat_abs (a +ℤ b) ≤ 2 ^ prec f → Whole (add f x y) (a +ℤ b)
unfolding add
add-whole f (whole s m e k p) (whole t n d l q) h =
    subst₂ (λ (x y : ℕ). Whole (sum f s x t y (down e * down d)) (signed s k +ℤ signed t l)) (sym (left (m * up e) k (down e) (down d) p))
    (sym (right (n * up d) l (down e) (down d) q))
    (sum-whole f s t k l (down e * down d) (mul-pos (down_pos e) (down_pos d)) h)

pub neg-whole : {x : Float} {a : ℤ} → Whole x a → Whole (neg x) (neg_ℤ a)
unfolding neg
neg-whole (whole s m e k p) = subst (λ (z : ℤ). Whole (fin (not s) m e) z) (sym (neg-signed s k)) (whole (not s) m e k p)

pub sub-whole : (f : Format) {x y : Float} {a b : ℤ} → Whole x a → Whole y b → nat_abs (a -ℤ b) ≤ 2 ^ prec f → Whole (sub f x y) (a -ℤ b)
unfolding sub
sub-whole f p q h = add-whole f p (neg-whole q) h

pub whole-finite : {x : Float} {a : ℤ} → Whole x a → T (finite x)
whole-finite (whole s m e k p) = tt

-- ---- comparison: `<` and `<=` are the integers'
bool-ext : (p q : Bool) → (T p → T q) → (T q → T p) → p ≡ q
bool-ext true true h k = refl
bool-ext true false h k = absurd (h tt)
bool-ext false true h k = absurd (k tt)
bool-ext false false h k = refl

ltb-scale : (a b c : ℕ) → 0 < c → ltb (a * c) (b * c) ≡ ltb a b
ltb-scale a b c C =
    bool-ext (ltb (a * c) (b * c)) (ltb a b) (λ t. lt→ltb a b (lt_of_mul-lt-mul_right c (ltb→lt (a * c) (b * c) t)))
    (λ t. lt→ltb (a * c) (b * c) (mul-lt-mul_of_pos_right (ltb→lt a b t) C))

pub below-scale : (s t : Bool) (a b c : ℕ) → 0 < c → below s (a * c) t (b * c) ≡ below s a t b
below-scale false false a b c C = ltb-scale a b c C
below-scale false true a b c C = refl
below-scale true false a b c C = ap₂ ltb (sym (zero-mul c)) (sym (add-mul a b c)) ∙ ltb-scale 0 (a + b) c C
below-scale true true a b c C = ltb-scale b a c C

pub lt-whole : {x y : Float} {a b : ℤ} → Whole x a → Whole y b → lt x y ≡ lt_z a b
unfolding lt
lt-whole (whole s m e k p) (whole t n d l q) =
    ap₂ (λ (x y : ℕ). below s x t y) (left (m * up e) k (down e) (down d) p) (right (n * up d) l (down e) (down d) q)
    ∙ below-scale s t k l (down e * down d) (mul-pos (down_pos e) (down_pos d))
    ∙ below-is s t k l

-- by what is not `<` the other way round
pub le-whole : {x y : Float} {a b : ℤ} → Whole x a → Whole y b → le x y ≡ le_z a b
le-whole {x} {y} {a} {b} p q =
    bool-ext (le x y) (le_z a b) (λ h. (lt_z_no {a = b} {b = a} (subst (λ (t : Bool). T (not t)) (lt-whole q p) (le→not-lt x y h))).le)
    (λ h. not-lt→le y x (finite-not-nan y (whole-finite q)) (finite-not-nan x (whole-finite p))
    (not_T (lt y x) (λ t. clash_ℤ (lt_z_yes {a = b} {b = a} (subst T (lt-whole q p) t)) (le_z_yes h))))
