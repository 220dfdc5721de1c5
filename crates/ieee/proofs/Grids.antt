-- Multiples of 2 ^ -j stay such through sums, differences and products: a rounded result keeps the exact value or drops
-- whole multiples of it. So a value that is not zero is at least 2 ^ -j in size, and may be divided by. Assumes
-- nothing.
use mathlib.Core.Path.{◌≡◌, sym, ap, ap₂, ◌∙◌, subst, subst₂}
use mathlib.Core.Logic.{inl, inr}
use Prim.Native.Nat.{ℕ, zero, suc, ◌+◌, ◌-◌, ◌*◌, ◌/◌, ◌%◌, ◌^◌, ◌≤◌, ◌<◌, compare}
use native.Mathlib.Nat.{le_trans, le_of_eq, le_of_lt, lt_of_lt_of_le, lt_of_le_of_lt, lt_irrefl, mul_comm, mul_assoc, mul_right_comm, mul_left_comm}
use native.Mathlib.Nat.{mul-one, mul-pos, mul-le-mul_right, mul-div_cancel, eq_of_mul-eq-mul_right, lt_of_mul-lt-mul_right}
use native.Mathlib.Nat.{zero-mul, le_refl, eq-zero-or-pos, add_comm}
use native.Mathlib.Omega.{arith}
use mathlib.Core.Bool.{Bool, true, false, ◌&&◌}
use lib.Dec.{T, ltb, leb, eqb, leb→le, ltb→lt}
use lib.Pow.{pow-add, pow_pos, pow-lt, pow_mono, shl_lt}
use lib.IntN.{ℤ, pos, negsuc}
use lib.Ieee.{Float, nan, inf, fin, Format, prec, emax, low, up, down, size, round, add, sub, mul, div, neg, fits}
use lib.Ieee.Digits.{back, size-lt}
use lib.Ieee.Exact.{round_exact}
use lib.Ieee.Fits.{div-fits, and_l, and_r}
use lib.Ieee.Nearest.{nearest-ge}
use lib.Ieee.Order.{drop, kept}
use lib.Ieee.Scale.{finite, overflow, round_val, round_under}
use lib.Ieee.Positive.{num, den, den_pos, value→cross}
use Rattle.ieee.specs.Whole.{plus_zero, Whole, whole, run}
use Rattle.ieee.specs.Size.{Upto, Least, Grid}
use Rattle.ieee.proofs.Integers.{by-test}
use Rattle.ieee.proofs.Sums.{sub-mul}
use Rattle.ieee.proofs.Order.{plus, less}
use Rattle.ieee.proofs.Rounds.{Rounds, add_rounds}
use Rattle.ieee.proofs.Sizes.{neg_same, round-size, mul-round, div-round, div-least, run-upto}

-- ---- where multiples come from
pub pow-le : (a b : ℕ) → 2 ^ a ≤ 2 ^ b → a ≤ b
pow-le a b h = by-test b a (λ (l : b < a). absurd (lt_irrefl (2 ^ b) (lt_of_lt_of_le (pow-lt l) h))) (λ (l : a ≤ b). l)

by-exponent : (s : Bool) (m : ℕ) (e : ℤ) (j : ℕ) → down e ≤ 2 ^ j → Grid j (fin s m e)
by-exponent s m (pos k) j h = record { finite = tt; count = m * 2 ^ k * 2 ^ j; size = sym (mul-one (m * 2 ^ k * 2 ^ j)) }
by-exponent s m (negsuc k) j h =
    record {
      finite = tt;
      count = m * 2 ^ (j - suc k);
      size =
          ap₂ ◌*◌ (mul-one m) (ap (λ (z : ℕ). 2 ^ z) (sym (back j (suc k) (pow-le (suc k) j h))) ∙ pow-add 2 (j - suc k) (suc k))
          ∙ sym (mul_assoc m (2 ^ (j - suc k)) (2 ^ suc k));
    }

-- a whole number
pub grid-whole : {x : Float} {z : ℤ} → Whole x z → Grid 0 x
grid-whole (whole s m e k p) = record { finite = tt; count = k; size = mul-one (m * up e) ∙ p }

pub grid-finer : {i : ℕ} {x : Float} (j : ℕ) → Grid i x → i ≤ j → Grid j x
grid-finer {i} {x} j g h =
    record {
      finite = g.finite;
      count = g.count * 2 ^ (j - i);
      size =
          ap (λ (z : ℕ). num x * z) (ap (λ (z : ℕ). 2 ^ z) (sym (back j i h) ∙ add_comm (j - i) i) ∙ pow-add 2 i (j - i))
          ∙ sym (mul_assoc (num x) (2 ^ i) (2 ^ (j - i))) ∙ ap (λ (z : ℕ). z * 2 ^ (j - i)) g.size
          ∙ mul_right_comm g.count (den x) (2 ^ (j - i));
    }

-- any finite value of the format: a multiple of its smallest one
pub grid-fits : (f : Format) (x : Float) → T (fits f x) → T (finite x) → Grid (low f) x
unfolding fits
grid-fits f nan t p = absurd p
grid-fits f (inf s) t p = absurd p
grid-fits f (fin s zero e) t p =
    record { finite = tt; count = 0; size = ap (λ (z : ℕ). z * 2 ^ low f) (zero-mul (up e)) ∙ zero-mul (2 ^ low f) ∙ sym (zero-mul (down e)) }
grid-fits f (fin s (suc m) e) t p =
    let a = eqb (suc m % 2) 1 && ltb (suc m) (2 ^ prec f) in
    by-exponent s (suc m) e (low f)
    (leb→le (down e) (2 ^ low f)
    (and_r a (leb (down e) (2 ^ low f)) (and_l (a && leb (down e) (2 ^ low f)) (ltb (suc m * up e) (2 ^ suc (emax f) * down e)) t)))

-- and, finer or coarser by its size, a value of the format that is at least 2 ^ -b
pub grid-digits : (f : Format) {b : ℕ} {x : Float} → T (fits f x) → Least b x → Grid (prec f + b) x
unfolding fits
grid-digits f {b} {x} t u = go x t u.finite u.size
  where
    go : (x : Float) → T (fits f x) → T (finite x) → den x ≤ num x * 2 ^ b → Grid (prec f + b) x
    go nan t p h = absurd p
    go (inf s) t p h = absurd p
    go (fin s zero e) t p h =
        absurd (lt_irrefl 0 (lt_of_lt_of_le (den_pos (fin s zero e))
        (le_trans h (le_of_eq (ap (λ (z : ℕ). z * 2 ^ b) (zero-mul (up e)) ∙ zero-mul (2 ^ b))))))
    go (fin s (suc m) (pos k)) t p h = by-exponent s (suc m) (pos k) (prec f + b) (pow_pos (prec f + b))
    go (fin s (suc m) (negsuc k)) t p h =
        let A = eqb (suc m % 2) 1 in
        let B = ltb (suc m) (2 ^ prec f) in
        let C = leb (2 ^ suc k) (2 ^ low f) in
        let l : suc m < 2 ^ prec f = ltb→lt (suc m) (2 ^ prec f)
        (and_r A B (and_l (A && B) C (and_l (A && B && C) (ltb (suc m * 1) (2 ^ suc (emax f) * 2 ^ suc k)) t))) in
        by-exponent s (suc m) (negsuc k) (prec f + b)
        (le_trans h (le_trans (le_of_eq (ap (λ (z : ℕ). z * 2 ^ b) (mul-one (suc m)))) (le_of_lt (shl_lt (prec f) b l))))

-- what is not zero
pub least-grid : {j : ℕ} {x : Float} → Grid j x → 0 < num x → Least j x
least-grid {j} {x} g h = record { finite = g.finite; size = go g.count g.size }
  where
    go : (n : ℕ) → num x * 2 ^ j ≡ n * den x → den x ≤ num x * 2 ^ j
    go zero e = absurd (lt_irrefl 0 (subst (λ (z : ℕ). 0 < z) (e ∙ zero-mul (den x)) (mul-pos h (pow_pos j))))
    go (suc n) e = omega (arith, e)

-- ---- equations with a denominator
pairs : (a b c d : ℕ) → a * b * (c * d) ≡ a * c * (b * d)
pairs a b c d = simp (mul_assoc, mul_left_comm)

pub both : (p d q e a b w : ℕ) → p * w ≡ a * d → q * w ≡ b * e → (p * e + q * d) * w ≡ (a + b) * (d * e)
both p d q e a b w h k = omega (arith, ap (λ (z : ℕ). z * e) h, ap (λ (z : ℕ). z * d) k)

-- d = p - q
pub less-part : (p q d c w P Q : ℕ) → p ≡ q + d → p * w ≡ P * c → q * w ≡ Q * c → d * w ≡ (P - Q) * c
less-part p q d c w P Q e g h = ap (λ (z : ℕ). z * w) (gone p q d e) ∙ sym (sub-mul p q w) ∙ ap₂ ◌-◌ g h ∙ sub-mul P Q c
  where
    gone : (p q d : ℕ) → p ≡ q + d → d ≡ p - q
    gone p q d e = omega arith

-- ---- a rounded fraction
size_room : (z p : ℕ) → z ≤ p + (z - p)
size_room z p = omega arith

round-grid+ : (f : Format) (a c j n : ℕ) → 0 < c → j ≤ low f → a * 2 ^ j ≡ n * c → T (finite (round f false a c)) → Grid j (round f false a c)
round-grid+ f a c j n C h e F = by-test k i exact coarse
  where
    r : Float
    r = round f false a c

    i : ℕ
    i = low f - j

    k : ℕ
    k = drop (prec f) (a * 2 ^ low f) c

    low-is : 2 ^ low f ≡ 2 ^ j * 2 ^ i
    low-is = ap (λ (z : ℕ). 2 ^ z) (sym (back (low f) j h) ∙ add_comm i j) ∙ pow-add 2 j i

    whole-units : a * 2 ^ low f ≡ n * 2 ^ i * c
    whole-units = ap (λ (z : ℕ). a * z) low-is ∙ sym (mul_assoc a (2 ^ j) (2 ^ i)) ∙ ap (λ (z : ℕ). z * 2 ^ i) e ∙ mul_right_comm n c (2 ^ i)

    -- fewer digits are dropped than the multiple has zeros: nothing is lost
    exact : k < i → Grid j r
    exact l =
        let q = n * 2 ^ (i - k) in
        let w : q * 2 ^ k ≡ n * 2 ^ i = mul_assoc n (2 ^ (i - k)) (2 ^ k)
        ∙ ap (λ (z : ℕ). n * z) (sym (pow-add 2 (i - k) k) ∙ ap (λ (z : ℕ). 2 ^ z) (back i k (le_of_lt l))) in
        let u : a * 2 ^ low f ≡ q * 2 ^ k * c = whole-units ∙ ap (λ (z : ℕ). z * c) (sym w) in
        let d : a * 2 ^ low f / c ≡ q * 2 ^ k = ap (λ (z : ℕ). z / c) u ∙ mul-div_cancel (q * 2 ^ k) C in
        let small : q < 2 ^ prec f = lt_of_mul-lt-mul_right (2 ^ k)
        (subst₂ ◌<◌ d (pow-add 2 (prec f) k)
        (lt_of_lt_of_le (size-lt (a * 2 ^ low f / c)) (pow_mono (size_room (size (a * 2 ^ low f / c)) (prec f))))) in
        let at : a * 2 ^ low f / (c * 2 ^ k) ≡ q = ap (λ (z : ℕ). z / (c * 2 ^ k))
        (u ∙ mul_assoc q (2 ^ k) c ∙ ap (λ (z : ℕ). q * z) (mul_comm (2 ^ k) c)) ∙ mul-div_cancel q (mul-pos C (pow_pos k)) in
        let fine : q * 2 ^ k < overflow f = lt_of_le_of_lt
        (mul-le-mul_right (2 ^ k)
        (le_trans (le_of_eq (sym at)) (nearest-ge (a * 2 ^ low f / (c * 2 ^ k)) (compare (a * 2 ^ low f % (c * 2 ^ k) * 2) (c * 2 ^ k)))))
        (round_under f a c F) in
        let v = value→cross r a c (round_exact f false a c q k C small fine u) in
        record {
          finite = F;
          count = n;
          size =
              eq_of_mul-eq-mul_right c C (num r * 2 ^ j) (n * den r)
              (mul_right_comm (num r) (2 ^ j) c ∙ ap (λ (z : ℕ). z * 2 ^ j) v ∙ mul_right_comm a (den r) (2 ^ j) ∙ ap (λ (z : ℕ). z * den r) e
              ∙ mul_right_comm n c (den r));
        }

    coarse : i ≤ k → Grid j r
    coarse l =
        let q = kept (prec f) (a * 2 ^ low f) c in
        let w : q * 2 ^ k ≡ q * 2 ^ (k - i) * 2 ^ i = ap (λ (z : ℕ). q * z) (ap (λ (z : ℕ). 2 ^ z) (sym (back k i l)) ∙ pow-add 2 (k - i) i)
        ∙ sym (mul_assoc q (2 ^ (k - i)) (2 ^ i)) in
        let v : num r * 2 ^ low f ≡ q * 2 ^ k * den r = value→cross r (q * 2 ^ k) (2 ^ low f) (round_val f a c (round_under f a c F)) in
        record {
          finite = F;
          count = q * 2 ^ (k - i);
          size =
              eq_of_mul-eq-mul_right (2 ^ i) (pow_pos i) (num r * 2 ^ j) (q * 2 ^ (k - i) * den r)
              (mul_assoc (num r) (2 ^ j) (2 ^ i) ∙ ap (λ (z : ℕ). num r * z) (sym low-is) ∙ v ∙ ap (λ (z : ℕ). z * den r) w
              ∙ mul_right_comm (q * 2 ^ (k - i)) (2 ^ i) (den r));
        }

round-grid : (f : Format) (s : Bool) (a c j n : ℕ) → 0 < c → j ≤ low f → a * 2 ^ j ≡ n * c → T (finite (round f s a c)) → Grid j (round f s a c)
round-grid f s a c j n C h e F =
    let z = round-size f s a c in
    let g = round-grid+ f a c j n C h e (subst T z.0 F) in
    record { finite = F; count = g.count; size = rw (z.1, z.2) g.size }

-- ---- sums, differences, products
-- the count of x's plus part, and of its less part
parts : {j : ℕ} {x : Float} → Grid j x → (p : ℕ) × (n : ℕ) × (plus x * 2 ^ j ≡ p * den x) × (less x * 2 ^ j ≡ n * den x)
parts {j} {x} g = go x g.size
  where
    none : (d : ℕ) → 0 * 2 ^ j ≡ 0 * d
    none d = zero-mul (2 ^ j) ∙ sym (zero-mul d)

    go : (x : Float) → num x * 2 ^ j ≡ g.count * den x → (p : ℕ) × (n : ℕ) × (plus x * 2 ^ j ≡ p * den x) × (less x * 2 ^ j ≡ n * den x)
    go nan e = (0, 0, none 1, none 1)
    go (inf s) e = (0, 0, none 1, none 1)
    go (fin false m d) e = (g.count, 0, e, none (down d))
    go (fin true m d) e = (0, g.count, none (down d), e)

rounds-grid : (f : Format) (r : Float) (p q c j P Q : ℕ) → Rounds f r p q c → 0 < c → j ≤ low f → p * 2 ^ j ≡ P * c → q * 2 ^ j ≡ Q * c → T (finite r)
    → Grid j r
rounds-grid f r p q c j P Q (inl a) C h e g F =
    subst (λ (x : Float). Grid j x) (sym a.1)
    (round-grid f false a.0 c j (P - Q) C h (less-part p q a.0 c (2 ^ j) P Q a.2 e g) (subst (λ (x : Float). T (finite x)) a.1 F))
rounds-grid f r p q c j P Q (inr a) C h e g F =
    subst (λ (x : Float). Grid j x) (sym a.1)
    (round-grid f true a.0 c j (Q - P) C h (less-part q p a.0 c (2 ^ j) Q P a.2 g e) (subst (λ (x : Float). T (finite x)) a.1 F))

pub add-grid : (f : Format) {j : ℕ} {x y : Float} → Grid j x → Grid j y → j ≤ low f → T (finite (add f x y)) → Grid j (add f x y)
add-grid f {j} {x} {y} u v h F =
    let (p, n, P, N) = parts u in
    let (q, m, Q, M) = parts v in
    rounds-grid f (add f x y) _ _ _ j (p + q) (n + m) (add_rounds f x y u.finite v.finite) (mul-pos (den_pos x) (den_pos y)) h
    (both (plus x) (den x) (plus y) (den y) p q (2 ^ j) P Q) (both (less x) (den x) (less y) (den y) n m (2 ^ j) N M) F

pub neg-grid : {j : ℕ} {x : Float} → Grid j x → Grid j (neg x)
neg-grid {j} {x} g = let e = neg_same x in record { finite = subst T (sym e.0) g.finite; count = g.count; size = rw (e.1, e.2) g.size }

pub sub-grid : (f : Format) {j : ℕ} {x y : Float} → Grid j x → Grid j y → j ≤ low f → T (finite (sub f x y)) → Grid j (sub f x y)
unfolding sub
sub-grid f u v h F = add-grid f u (neg-grid v) h F

pub mul-grid : (f : Format) {i j : ℕ} {x y : Float} → Grid i x → Grid j y → i + j ≤ low f → T (finite (mul f x y)) → Grid (i + j) (mul f x y)
mul-grid f {i} {j} {x} {y} u v h F =
    let (s, e) = mul-round f x y u.finite v.finite in
    subst (λ (z : Float). Grid (i + j) z) (sym e)
    (round-grid f s (num x * num y) (den x * den y) (i + j) (u.count * v.count) (mul-pos (den_pos x) (den_pos y)) h
    (ap (λ (w : ℕ). num x * num y * w) (pow-add 2 i j) ∙ pairs (num x) (num y) (2 ^ i) (2 ^ j) ∙ ap₂ ◌*◌ u.size v.size
    ∙ pairs u.count (den x) v.count (den y))
    (subst (λ (z : Float). T (finite z)) e F))

-- a quotient is a multiple of something, coarse as it is: its digits are counted from its size
pub div-grid : (f : Format) {i k : ℕ} {x y : Float} → Grid i x → Upto 1 k y → 0 < num y → i + k ≤ low f → T (finite (div f x y))
    → Grid (prec f + (i + k)) (div f x y)
div-grid f {i} {k} {x} {y} u v n h F = elim (eq-zero-or-pos (num x)) [
  | inl e ↦
      let (s, d) = div-round f x y u.finite v.finite n in
      grid-finer (prec f + (i + k))
      (subst (λ (z : Float). Grid 0 z) (sym d)
      (round-grid f s (num x * den y) (num y * den x) 0 0 (mul-pos n (den_pos x)) (omega arith) (ap (λ (z : ℕ). z * den y * 1) e ∙ omega arith)
      (subst (λ (z : Float). T (finite z)) d F))) (omega arith)
  | inr p ↦ grid-digits f (div-fits f x y) (div-least f (least-grid u p) v n h F)
]

-- n terms from 0.0, each a multiple and bounded
pub run-grid : (f : Format) (j k : ℕ) (x : ℕ → Float) (n : ℕ) → ((i : ℕ) → i < n → Grid j (x i)) → ((i : ℕ) → i < n → Upto 1 k (x i)) → n < 2 ^ prec f
    → k + prec f ≤ emax f → j ≤ low f → Grid j (run (add f) plus_zero x n)
unfolding run
run-grid f j k x zero w u h g l = record { finite = tt; count = 0; size = omega arith }
run-grid f j k x (suc n) w u h g l =
    add-grid f (run-grid f j k x n (λ i m. w i (omega arith)) (λ i m. u i (omega arith)) (omega arith) g l) (w n (le_refl (suc n))) l
    (run-upto f k x (suc n) u h g).finite
