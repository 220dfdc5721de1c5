-- Equal floats of a format are one value, but for the two zeros. So a whole number that is not -0.0 is the integer's
-- own float, `of_int f z`, and sums that start from one are again such. `of_int f z` is also what a cast of an integer
-- gives. Assumes nothing.
use mathlib.Core.Path.{◌≡◌, refl, sym, ap, ap₂, ◌∙◌, subst}
use Prim.Native.Nat.{ℕ, zero, suc, ◌+◌, ◌-◌, ◌*◌, ◌/◌, ◌%◌, ◌^◌, ◌≤◌, ◌<◌}
use native.Mathlib.Nat.{mul-one, mul_assoc, mul_right_comm, zero-lt-suc, mul-lt-mul_of_pos_right, lt_of_mul-lt-mul_right}
use native.Mathlib.Omega.{arith}
use mathlib.Core.Bool.{Bool, true, false, not, ◌&&◌, ◌||◌, cond, beq, true≢false}
use lib.Dec.{T, eqb, leb, ltb, eqb→eq, le→leb, leb→le, lt→ltb, ltb→lt, T_not, not_T}
use lib.Pow.{pow-add, pow_pos}
use lib.IntN.{ℤ, pos, negsuc, nat_abs, ◌+ℤ◌, ◌-ℤ◌}
use lib.Signed.{le_z, ≤ℤ_refl}
use lib.Ieee.{Float, nan, inf, fin, Format, binary32, prec, emax, low, up, down, size, hid, top}
use lib.Ieee.{round, sum, add, sub, neg, of_int, of_bits, to_bits, eq, le, fits, in_float}
use lib.Ieee.Bits.{of_bits-to_bits, to_bits-lt}
use lib.Ieee.Exact.{HasValue, round_exact}
use lib.Ieee.Fits.{and_l, and_r, down_pos, round-fits, add-fits, sub-fits, of_int-fits}
use lib.Ieee.Scale.{finite}
use lib.Ieee.Nearest.{div_same}
use lib.Ieee.Back.{round_whole}
use Rattle.ieee.specs.Whole.{plus_zero, is_zero, Whole}
use Rattle.ieee.specs.Size.{Grid}
use Rattle.ieee.proofs.Order.{le-le→eq}
use Rattle.ieee.proofs.Sums.{of-value, add-whole, sub-whole, le-whole}
use Rattle.ieee.proofs.Grids.{pow-le, grid-whole, grid-finer}
use Rattle.ieee.proofs.Zeros.{beq-is, is-minus, round-zero, add-minus-zero, sub-minus-zero}

-- ---- equal values
bits_of : (f : Format) (s : Bool) (m : ℕ) (e : ℤ) (n : ℕ) (d : ℤ) → m * up e * down d ≡ n * up d * down e → to_bits f (fin s m e) ≡ to_bits f (fin s n d)
unfolding to_bits
bits_of f s m e n d h =
    ap (λ (v : ℕ). cond s (top f) 0 + (size v - prec f) * hid f + v / 2 ^ (size v - prec f))
    (div_same (m * up e * 2 ^ low f) (down e) (n * up d * 2 ^ low f) (down d) (down_pos e) (down_pos d)
    (mul_right_comm (m * up e) (2 ^ low f) (down d) ∙ ap (λ (k : ℕ). k * 2 ^ low f) h ∙ mul_right_comm (n * up d) (down e) (2 ^ low f)))

one_value : (f : Format) (s : Bool) (m : ℕ) (e : ℤ) (n : ℕ) (d : ℤ) → T (fits f (fin s m e)) → T (fits f (fin s n d))
    → m * up e * down d ≡ n * up d * down e → fin s m e ≡ fin s n d
one_value f s m e n d p q h = sym (of_bits-to_bits f (fin s m e) p) ∙ ap (of_bits f) (bits_of f s m e n d h) ∙ of_bits-to_bits f (fin s n d) q

-- ---- what an f32 is by its bits has 32 of them
pub pattern-below : (x : Float) → fits binary32 x ≡ true → to_bits binary32 x < 2 ^ 32
pattern-below x e = to_bits-lt binary32 x (subst T (sym e) tt)

-- ---- rounding a value of the format changes nothing
same-value : (f : Format) (s : Bool) (m : ℕ) (e : ℤ) (x : Float) → T (fits f x) → T (fits f (fin s m e)) → HasValue x s (m * up e) (down e) → x ≡ fin s m e
same-value f s m e nan p q v = absurd v
same-value f s m e (inf t) p q v = absurd v
same-value f s m e (fin t n d) p q v =
    let r = ap (λ (b : Bool). fin b n d) v.0 in r ∙ one_value f s n d m e (subst (λ (x : Float). T (fits f x)) r p) q v.1

in-units : (m : ℕ) (e : ℤ) (l : ℕ) → down e ≤ 2 ^ l → (j : ℕ) × (m * up e * 2 ^ l ≡ m * 2 ^ j * down e)
in-units m (pos k) l h = (k + l, mul_assoc m (2 ^ k) (2 ^ l) ∙ ap (λ (z : ℕ). m * z) (sym (pow-add 2 k l)) ∙ sym (mul-one (m * 2 ^ (k + l))))
in-units m (negsuc k) l h =
    let back : 2 ^ l ≡ 2 ^ (l - suc k) * 2 ^ suc k = ap (λ (z : ℕ). 2 ^ z) (omega (arith, pow-le (suc k) l h)) ∙ pow-add 2 (l - suc k) (suc k) in
    (l - suc k, ap₂ ◌*◌ (mul-one m) back ∙ sym (mul_assoc m (2 ^ (l - suc k)) (2 ^ suc k)))

pub round-back : (f : Format) (s : Bool) (m : ℕ) (e : ℤ) → T (fits f (fin s m e)) → round f s (m * up e) (down e) ≡ fin s m e
unfolding fits
round-back f s zero e t =
    same-value f s zero e (round f s (zero * up e) (down e)) (round-fits f s (zero * up e) (down e)) t
    (round_exact f s (zero * up e) (down e) 0 0 (down_pos e) (pow_pos (prec f)) (pow_pos (low f + suc (emax f))) (omega arith))
round-back f s (suc m) e t =
    let A = eqb (suc m % 2) 1 in
    let B = ltb (suc m) (2 ^ prec f) in
    let C = leb (down e) (2 ^ low f) in
    let D = ltb (suc m * up e) (2 ^ suc (emax f) * down e) in
    let small = ltb→lt (suc m) (2 ^ prec f) (and_r A B (and_l (A && B) C (and_l (A && B && C) D t))) in
    let (j, is) = in-units (suc m) e (low f) (leb→le (down e) (2 ^ low f) (and_r (A && B) C (and_l (A && B && C) D t))) in
    let least = ltb→lt (suc m * up e) (2 ^ suc (emax f) * down e) (and_r (A && B && C) D t) in
    same-value f s (suc m) e (round f s (suc m * up e) (down e)) (round-fits f s (suc m * up e) (down e)) t
    (round_exact f s (suc m * up e) (down e) (suc m) j (down_pos e) small
    (subst (λ (z : ℕ). suc m * 2 ^ j < z) (sym (pow-add 2 (low f) (suc (emax f))))
    (below (suc m * up e) (down e) (suc m * 2 ^ j) (2 ^ low f) (2 ^ suc (emax f)) (pow_pos (low f)) is least)) is)
  where
    below : (a d q l w : ℕ) → 0 < l → a * l ≡ q * d → a < w * d → q < l * w
    below a d q l w L e h = lt_of_mul-lt-mul_right d (omega (arith, e, mul-lt-mul_of_pos_right h L))

-- x - 0.0 is x
less_none : (f : Format) (s : Bool) (a b c : ℕ) → b ≡ 0 → sum f s a true b c ≡ round f s a c
unfolding sum
less_none f true a b c e = ap (λ (k : ℕ). round f true k c) (omega arith)
less_none f false a b c e = go (ltb a b) (ltb→lt a b)
  where
    go : (t : Bool) → (T t → a < b) → cond t (round f true (b - a) c) (round f false (a - b) c) ≡ round f false a c
    go true h = let l : a < b = h tt in absurd (omega arith)
    go false h = ap (λ (k : ℕ). round f false k c) (omega arith)

pub sub-zero : (f : Format) (x : Float) → T (fits f x) → T (finite x) → sub f x plus_zero ≡ x
unfolding sub neg add
sub-zero f nan t p = absurd p
sub-zero f (inf s) t p = absurd p
sub-zero f (fin s m e) t p =
    less_none f s (m * up e * 1) (0 * 1 * down e) (down e * 1) (omega arith) ∙ ap₂ (round f s) (mul-one (m * up e)) (mul-one (down e)) ∙ round-back f s m e t

-- equal floats of a format that are not -0.0 are one value
pub equal : (f : Format) (x y : Float) → T (fits f x) → T (fits f y) → T (not (is_zero true x)) → T (not (is_zero true y)) → T (eq x y) → x ≡ y
unfolding eq
equal f nan y p q a b h = absurd h
equal f (inf s) nan p q a b h = absurd h
equal f (inf s) (inf t) p q a b h = ap inf (sym (beq-is s t h))
equal f (inf s) (fin t n d) p q a b h = absurd h
equal f (fin s m e) nan p q a b h = absurd h
equal f (fin s m e) (inf t) p q a b h = absurd h
equal f (fin s m e) (fin t n d) p q a b h = go s t p q a b (and_r (eqb A B) (beq s t || eqb A 0) h)
  where
    A : ℕ
    A = m * up e * down d

    B : ℕ
    B = n * up d * down e

    e-is : m * up e * down d ≡ n * up d * down e
    e-is = eqb→eq A B (and_l (eqb A B) (beq s t || eqb A 0) h)

    go : (s t : Bool) → T (fits f (fin s m e)) → T (fits f (fin t n d)) → T (not (is_zero true (fin s m e))) → T (not (is_zero true (fin t n d)))
        → T (beq s t || eqb (m * up e * down d) 0) → fin s m e ≡ fin t n d
    go false false p q a b h = one_value f false m e n d p q e-is
    go true true p q a b h = one_value f true m e n d p q e-is
    go false true p q a b h = absurd (T_not (is_zero true (fin true n d)) b (is-minus true n d e refl (sym e-is ∙ eqb→eq (m * up e * down d) 0 h)))
    go true false p q a b h = absurd (T_not (is_zero true (fin true m e)) a (is-minus true m e d refl (eqb→eq (m * up e * down d) 0 h)))

pub equal-whole : (f : Format) {x y : Float} {z : ℤ} → T (fits f x) → T (fits f y) → T (not (is_zero true x)) → T (not (is_zero true y)) → Whole x z
    → Whole y z → x ≡ y
equal-whole f {x} {y} {z} p q a b v w =
    equal f x y p q a b (le-le→eq x y (subst T (sym (le-whole v w)) (≤ℤ_refl z).le) (subst T (sym (le-whole w v)) (≤ℤ_refl z).le))

-- ---- the integer as a float
pub of_int-whole : (f : Format) (z : ℤ) → nat_abs z ≤ 2 ^ prec f → Whole (of_int f z) z
unfolding of_int
of_int-whole f (pos n) h = of-value (round f false n 1) false n (round_whole f false n h)
of_int-whole f (negsuc n) h = of-value (round f true (suc n) 1) true (suc n) (round_whole f true (suc n) h)

pub of_int-plain : (f : Format) (z : ℤ) → T (not (is_zero true (of_int f z)))
unfolding of_int
of_int-plain f (pos n) =
    not_T (is_zero true (round f false n 1))
    (λ h. true≢false (sym (round-zero f false true n 1 (n * 2 ^ low f) (zero-lt-suc 0) (sym (mul-one (n * 2 ^ low f))) h).0))
of_int-plain f (negsuc n) =
    not_T (is_zero true (round f true (suc n) 1))
    (λ h. no (round-zero f true true (suc n) 1 (suc n * 2 ^ low f) (zero-lt-suc 0) (sym (mul-one (suc n * 2 ^ low f))) h).1)
  where
    no : suc n ≡ 0 → ⊥
    no e = omega arith

pub whole_is : (f : Format) {x : Float} {z : ℤ} → T (fits f x) → T (not (is_zero true x)) → Whole x z → nat_abs z ≤ 2 ^ prec f → x ≡ of_int f z
whole_is f {x} {z} p a v h = equal-whole f p (of_int-fits f z) a (of_int-plain f z) v (of_int-whole f z h)

-- ---- sums and differences that start from an integer's float
low-grid : (f : Format) {x : Float} {z : ℤ} → Whole x z → Grid (low f) x
low-grid f v = grid-finer (low f) (grid-whole v) (omega arith)

pub add-of_int : (f : Format) {y : Float} (a : ℤ) {b : ℤ} → nat_abs a ≤ 2 ^ prec f → Whole y b → nat_abs (a +ℤ b) ≤ 2 ^ prec f
    → add f (of_int f a) y ≡ of_int f (a +ℤ b)
add-of_int f {y} a h v k =
    let u = of_int-whole f a h in
    whole_is f (add-fits f (of_int f a) y)
    (not_T (is_zero true (add f (of_int f a) y))
    (λ z. T_not (is_zero true (of_int f a)) (of_int-plain f a) (add-minus-zero f (of_int f a) y (low-grid f u) (low-grid f v) z).0))
    (add-whole f u v k) k

pub sub-of_int : (f : Format) {y : Float} (a : ℤ) {b : ℤ} → nat_abs a ≤ 2 ^ prec f → Whole y b → nat_abs (a -ℤ b) ≤ 2 ^ prec f
    → sub f (of_int f a) y ≡ of_int f (a -ℤ b)
sub-of_int f {y} a h v k =
    let u = of_int-whole f a h in
    whole_is f (sub-fits f (of_int f a) y)
    (not_T (is_zero true (sub f (of_int f a) y))
    (λ z. T_not (is_zero true (of_int f a)) (of_int-plain f a) (sub-minus-zero f (of_int f a) y (low-grid f u) (low-grid f v) z).0))
    (sub-whole f u v k) k

-- ---- the order of casts, and that a cast is allowed
pub of_int-le : (f : Format) (a b : ℤ) → nat_abs a ≤ 2 ^ prec f → nat_abs b ≤ 2 ^ prec f → le (of_int f a) (of_int f b) ≡ le_z a b
of_int-le f a b h k = le-whole (of_int-whole f a h) (of_int-whole f b k)

pub of_int-allowed : (f : Format) (z : ℤ) → nat_abs z ≤ 2 ^ prec f → T (in_float f z)
unfolding in_float
of_int-allowed f (pos n) h = le→leb n (2 ^ prec f) h
of_int-allowed f (negsuc n) h = lt→ltb n (2 ^ prec f) h
