-- |x| ≤ n * 2 ^ k through each operation: the bound is itself a value of the format, and rounding keeps the order. So
-- no step is a NaN or an infinity. Beside it 2 ^ -b ≤ |x|, for divisors. Assumes nothing.
use mathlib.Core.Path.{◌≡◌, refl, sym, ap, ◌∙◌, subst, subst₂}
use Prim.Native.Nat.{ℕ, zero, suc, ◌+◌, ◌-◌, ◌*◌, ◌^◌, ◌≤◌, ◌<◌}
use native.Mathlib.Nat.{le_trans, le_of_eq, lt_of_lt_of_le, mul_comm, mul_assoc, mul_right_comm, mul_left_comm, mul-one, one-mul}
use native.Mathlib.Nat.{mul-pos, mul-le-mul, mul-le-mul_right, le_of_mul-le-mul_right, zero-lt-suc, zero-mul, lt_irrefl, le_refl}
use native.Mathlib.Omega.{arith}
use mathlib.Core.Bool.{Bool, true, false, cond}
use lib.Dec.{T, eqb, lit<, eqb-suc-zero}
use lib.Pow.{pow-add, pow_pos, pow-lt, pow_mono, shl_lt}
use lib.IntN.{ℤ, pos, nat_abs}
use lib.Ieee.{Float, nan, inf, fin, Format, binary32, binary64, prec, emax, low, up, down, unlike, round, add, sub, mul, div, neg, le}
use lib.Ieee.Exact.{HasValue, round_exact}
use lib.Ieee.Digits.{back}
use lib.Ieee.Order.{round_mono}
use lib.Ieee.Scale.{finite}
use lib.Ieee.Positive.{num, den, den_pos, value→cross}
use mathlib.Core.Logic.{inl, inr}
use Rattle.ieee.specs.Whole.{plus_zero, Whole, whole, run}
use Rattle.ieee.specs.Within.{Within}
use Rattle.ieee.specs.Size.{Upto, Least}
use Rattle.ieee.proofs.Integers.{abs-signed}
use Rattle.ieee.proofs.Signs.{minus_sign, round-neg, round-sign}
use Rattle.ieee.proofs.Order.{plus, less, le→cross, cross→le}
use Rattle.ieee.proofs.Rounds.{Rounds, above, add_rounds, no_less, add-above}
use Rattle.ieee.proofs.Intervals.{within-finite}

-- ---- the parts of a float without a minus, and of one with its sign changed
unsigned : (x : Float) → minus_sign x ≡ false → (plus x ≡ num x) × (less x ≡ 0)
unsigned nan e = (refl, refl)
unsigned (inf s) e = (refl, refl)
unsigned (fin false m e) p = (refl, refl)
unsigned (fin true m e) p = let z : ◌≡◌ {A = ℕ} 0 1 = cc in absurd (omega arith)

num-parts : (x : Float) → num x ≡ plus x + less x
num-parts nan = refl
num-parts (inf s) = refl
num-parts (fin false m e) = omega arith
num-parts (fin true m e) = omega arith

plus-num : (x : Float) → plus x ≤ num x
plus-num x = omega (arith, num-parts x)

less-num : (x : Float) → less x ≤ num x
less-num x = omega (arith, num-parts x)

pub neg_same : (x : Float) → (finite (neg x) ≡ finite x) × (num (neg x) ≡ num x) × (den (neg x) ≡ den x)
unfolding neg
neg_same nan = (refl, refl, refl)
neg_same (inf s) = (refl, refl, refl)
neg_same (fin s m e) = (refl, refl, refl)

pub neg-upto : {n k : ℕ} {x : Float} → Upto n k x → Upto n k (neg x)
neg-upto {n} {k} {x} u = let e = neg_same x in record { finite = subst T (sym e.0) u.finite; size = rw (e.1, e.2) u.size }

-- ---- n * 2 ^ k and 2 ^ -b are values of the format
held : (f : Format) (n k : ℕ) → n < 2 ^ prec f → k + prec f ≤ emax f → HasValue (round f false (n * 2 ^ k) 1) false (n * 2 ^ k) 1
held f n k h g =
    round_exact f false (n * 2 ^ k) 1 n (k + low f) (zero-lt-suc 0) h
    (lt_of_lt_of_le (shl_lt (prec f) (k + low f) h) (pow_mono (room (prec f) k (low f) (emax f) g)))
    (mul_assoc n (2 ^ k) (2 ^ low f) ∙ ap (λ (z : ℕ). n * z) (sym (pow-add 2 k (low f))) ∙ sym (mul-one (n * 2 ^ (k + low f))))
  where
    room : (p k l e : ℕ) → k + p ≤ e → p + (k + l) ≤ l + suc e
    room p k l e h = omega arith

held_below : (f : Format) (b : ℕ) → b ≤ low f → HasValue (round f false 1 (2 ^ b)) false 1 (2 ^ b)
held_below f b h =
    round_exact f false 1 (2 ^ b) 1 (low f - b) (pow_pos b) (one f)
    (subst (λ (z : ℕ). z < 2 ^ (low f + suc (emax f))) (sym (one-mul (2 ^ (low f - b)))) (pow-lt (room (low f) b (emax f))))
    (one-mul (2 ^ low f) ∙ ap (λ (z : ℕ). 2 ^ z) (sym (back (low f) b h)) ∙ pow-add 2 (low f - b) b
    ∙ ap (λ (z : ℕ). z * 2 ^ b) (sym (one-mul (2 ^ (low f - b)))))
  where
    one : (f : Format) → 1 < 2 ^ prec f
    one binary32 = lit< tt
    one binary64 = lit< tt

    room : (l b e : ℕ) → l - b < l + suc e
    room l b e = omega arith

value-finite : (x : Float) (s : Bool) (a c : ℕ) → HasValue x s a c → T (finite x)
value-finite nan s a c v = v
value-finite (inf t) s a c v = v
value-finite (fin t m e) s a c v = tt

-- ---- a rounded fraction
-- x ≤ y, neither with a minus
num-cross : (x y : Float) → minus_sign x ≡ false → minus_sign y ≡ false → T (finite x) → T (finite y) → T (le x y) → num x * den y ≤ num y * den x
num-cross x y s t p q h =
    let a = unsigned x s in
    let b = unsigned y t in
    let c : num x * den y + 0 * den x ≤ num y * den x + 0 * den y = subst₂ (λ (u v : ℕ). u * den y + 0 * den x ≤ v * den x + 0 * den y) a.0 b.0
    (subst₂ (λ (u v : ℕ). plus x * den y + u * den x ≤ plus y * den x + v * den y) b.1 a.1 (le→cross x y p q h)) in
    omega arith

-- the sign changes nothing of the size
pub round-size : (f : Format) (s : Bool) (a c : ℕ)
    → (finite (round f s a c) ≡ finite (round f false a c)) × (num (round f s a c) ≡ num (round f false a c)) × (den (round f s a c) ≡ den (round f false a c))
round-size f false a c = (refl, refl, refl)
round-size f true a c =
    let e = round-neg f false a c in
    let n = neg_same (round f false a c) in
    (ap finite e ∙ n.0, ap num e ∙ n.1, ap den e ∙ n.2)

round-upto : (f : Format) (s : Bool) (a c n k : ℕ) → 0 < c → n < 2 ^ prec f → k + prec f ≤ emax f → a ≤ n * 2 ^ k * c → Upto n k (round f s a c)
round-upto f s a c n k C h g l =
    let r = round f false a c in
    let B = round f false (n * 2 ^ k) 1 in
    let v = held f n k h g in
    let F = value-finite B false (n * 2 ^ k) 1 v in
    let o : T (le r B) = round_mono f a c (n * 2 ^ k) 1 C (zero-lt-suc 0) (le_trans (le_of_eq (mul-one a)) l) in
    let R = within-finite plus_zero B r tt F (record { from = above f a c C; to = o }) in
    let e = round-size f s a c in
    record {
      finite = subst T (sym e.0) R;
      size =
          rw (e.1, e.2) (cut (num r) (den r) (num B) (den B) (n * 2 ^ k) (den_pos B)
          (num-cross r B (round-sign f false a c) (round-sign f false (n * 2 ^ k) 1) R F o) (value→cross B (n * 2 ^ k) 1 v));
    }
  where
    cut : (p q t u b : ℕ) → 0 < u → p * u ≤ t * q → t * 1 ≡ b * u → p ≤ b * q
    cut p q t u b U h e = le_of_mul-le-mul_right (le_trans h (le_of_eq (ap (λ (z : ℕ). z * q) (sym (mul-one t) ∙ e) ∙ mul_right_comm b u q))) U

pub round-least : (f : Format) (s : Bool) (a c b : ℕ) → 0 < c → b ≤ low f → c ≤ a * 2 ^ b → T (finite (round f s a c)) → Least b (round f s a c)
round-least f s a c b C h l R =
    let r = round f false a c in
    let B = round f false 1 (2 ^ b) in
    let v = held_below f b h in
    let F = value-finite B false 1 (2 ^ b) v in
    let o : T (le B r) = round_mono f 1 (2 ^ b) a c (pow_pos b) C (le_trans (le_of_eq (one-mul c)) l) in
    let e = round-size f s a c in
    record {
      finite = R;
      size =
          rw (e.1, e.2) (cut (num B) (den B) (num r) (den r) (2 ^ b) (den_pos B)
          (num-cross B r (round-sign f false 1 (2 ^ b)) (round-sign f false a c) F (subst T e.0 R) o) (value→cross B 1 (2 ^ b) v));
    }
  where
    cut : (t u p q w : ℕ) → 0 < u → t * q ≤ p * u → t * w ≡ 1 * u → q ≤ p * w
    cut t u p q w U h e = le_of_mul-le-mul_right (omega (arith, mul-le-mul_right w h, ap (λ (z : ℕ). z * q) e)) U

-- ---- what is known from the start
pub upto_zero : {k : ℕ} → Upto 0 k plus_zero
upto_zero {k} = record { finite = tt; size = omega arith }

pub upto-wider : {a j : ℕ} {x : Float} (b k : ℕ) → Upto a j x → a * 2 ^ j ≤ b * 2 ^ k → Upto b k x
upto-wider {x = x} b k u h = record { finite = u.finite; size = le_trans u.size (mul-le-mul_right (den x) h) }

-- from an interval whose ends are so bounded
pub upto-within : {n k : ℕ} {l h x : Float} → Upto n k l → Upto n k h → Within l h x → Upto n k x
upto-within {n} {k} {l} {h} {x} a b w =
    let F = within-finite l h x a.finite b.finite w in
    record { finite = F; size = go x F (le→cross l x a.finite F w.from) (le→cross x h F b.finite w.to) }
  where
    over : (p q t u b : ℕ) → 0 < u → p * u ≤ t * q → t ≤ b * u → p ≤ b * q
    over p q t u b U h e = le_of_mul-le-mul_right (le_trans h (le_trans (mul-le-mul_right q e) (le_of_eq (mul_right_comm b u q)))) U

    go : (x : Float) → T (finite x) → plus l * den x + less x * den l ≤ plus x * den l + less l * den x
        → plus x * den h + less h * den x ≤ plus h * den x + less x * den h → num x ≤ n * 2 ^ k * den x
    go nan F p q = absurd F
    go (inf s) F p q = absurd F
    go (fin false m e) F p q = over (m * up e) (down e) (plus h) (den h) (n * 2 ^ k) (den_pos h) (omega arith) (le_trans (plus-num h) b.size)
    go (fin true m e) F p q = over (m * up e) (down e) (less l) (den l) (n * 2 ^ k) (den_pos l) (omega arith) (le_trans (less-num l) a.size)

-- and back
pub within-upto : {n k : ℕ} {x : Float} → Upto n k x → Within (fin true n (pos k)) (fin false n (pos k)) x
within-upto {n} {k} {x} u =
    record {
      from = cross→le (fin true n (pos k)) x tt u.finite (omega (arith, u.size, less-num x));
      to = cross→le x (fin false n (pos k)) u.finite tt (omega (arith, u.size, plus-num x));
    }

-- a whole number
pub upto-whole : {x : Float} {z : ℤ} (n k : ℕ) → Whole x z → nat_abs z ≤ n * 2 ^ k → Upto n k x
upto-whole n k (whole s m e i p) h =
    record { finite = tt; size = le_trans (le_of_eq p) (mul-le-mul_right (down e) (le_trans (le_of_eq (sym (abs-signed s i))) h)) }

pub least-whole : {x : Float} {z : ℤ} → Whole x z → 0 < nat_abs z → Least 0 x
least-whole (whole s m e zero p) h = absurd (lt_irrefl 0 (subst (λ (n : ℕ). 0 < n) (abs-signed s 0) h))
least-whole (whole s m e (suc i) p) h = record { finite = tt; size = omega (arith, p) }

-- what is at least a positive bound
pub least_above : {b : ℕ} {l x : Float} → Least b l → T (le plus_zero l) → T (le l x) → T (finite x) → Least b x
least_above {b} {l} {x} u o h F =
    record {
      finite = F;
      size = cut (num l) (den l) (num x) (den x) (2 ^ b) (den_pos l) u.size
          (over (plus l) (less l) (num l) (den l) (plus x) (less x) (num x) (den x) (no_less l u.finite o) (num-parts l) (plus-num x)
          (le→cross l x u.finite F h));
    }
  where
    over : (p n a d q m b e : ℕ) → n ≡ 0 → a ≡ p + n → q ≤ b → p * e + m * d ≤ q * d + n * e → a * e ≤ b * d
    over p n a d q m b e z s l h = omega (arith, ap (λ (k : ℕ). k * e) z, ap (λ (k : ℕ). k * e) s, mul-le-mul_right d l)

    cut : (a d b e w : ℕ) → 0 < d → d ≤ a * w → a * e ≤ b * d → e ≤ b * w
    cut a d b e w D h k = le_of_mul-le-mul_right (omega (arith, mul-le-mul_right e h, mul-le-mul_right w k)) D

-- ---- sums and differences
rounds-upto : (f : Format) (r : Float) (p q c n k : ℕ) → Rounds f r p q c → 0 < c → n < 2 ^ prec f → k + prec f ≤ emax f → p ≤ n * 2 ^ k * c
    → q ≤ n * 2 ^ k * c → Upto n k r
rounds-upto f r p q c n k (inl a) C h g l m =
    subst (λ (x : Float). Upto n k x) (sym a.1) (round-upto f false a.0 c n k C h g (le_trans (part p q a.0 a.2) l))
  where
    part : (p q d : ℕ) → p ≡ q + d → d ≤ p
    part p q d e = omega arith
rounds-upto f r p q c n k (inr a) C h g l m =
    subst (λ (x : Float). Upto n k x) (sym a.1) (round-upto f true a.0 c n k C h g (le_trans (part q p a.0 a.2) m))
  where
    part : (p q d : ℕ) → p ≡ q + d → d ≤ p
    part p q d e = omega arith

pub add-upto : (f : Format) {a b k : ℕ} {x y : Float} → Upto a k x → Upto b k y → a + b < 2 ^ prec f → k + prec f ≤ emax f → Upto (a + b) k (add f x y)
add-upto f {a} {b} {k} {x} {y} u v h g =
    rounds-upto f (add f x y) _ _ _ (a + b) k (add_rounds f x y u.finite v.finite) (mul-pos (den_pos x) (den_pos y)) h g
    (both (plus x) (den x) (plus y) (den y) a b (2 ^ k) (le_trans (plus-num x) u.size) (le_trans (plus-num y) v.size))
    (both (less x) (den x) (less y) (den y) a b (2 ^ k) (le_trans (less-num x) u.size) (le_trans (less-num y) v.size))
  where
    both : (p d q e a b w : ℕ) → p ≤ a * w * d → q ≤ b * w * e → p * e + q * d ≤ (a + b) * w * (d * e)
    both p d q e a b w h k = omega (arith, mul-le-mul_right e h, mul-le-mul_right d k)

pub sub-upto : (f : Format) {a b k : ℕ} {x y : Float} → Upto a k x → Upto b k y → a + b < 2 ^ prec f → k + prec f ≤ emax f → Upto (a + b) k (sub f x y)
unfolding sub
sub-upto f u v h g = add-upto f u (neg-upto v) h g

zero-zero : T (le plus_zero plus_zero)
unfolding le
zero-zero = tt

-- n terms, each within m * 2 ^ k, from what is within c * 2 ^ k
pub run-upto-from : (f : Format) (c m k : ℕ) {a : Float} (x : ℕ → Float) (n : ℕ) → Upto c k a → ((i : ℕ) → i < n → Upto m k (x i)) → c + n * m < 2 ^ prec f
    → k + prec f ≤ emax f → Upto (c + n * m) k (run (add f) a x n)
unfolding run
run-upto-from f c m k x zero u w h g = upto-wider (c + 0 * m) k u (omega arith)
run-upto-from f c m k x (suc n) u w h g =
    upto-wider (c + suc n * m) k (add-upto f (run-upto-from f c m k x n u (λ i l. w i (omega arith)) (omega arith) g) (w n (le_refl (suc n))) (omega arith) g)
    (omega arith)

-- n terms, each within 2 ^ k, from 0.0
pub run-upto : (f : Format) (k : ℕ) (x : ℕ → Float) (n : ℕ) → ((i : ℕ) → i < n → Upto 1 k (x i)) → n < 2 ^ prec f → k + prec f ≤ emax f
    → Upto n k (run (add f) plus_zero x n)
run-upto f k x n w h g = upto-wider n k (run-upto-from f 0 1 k x n upto_zero w (omega arith) g) (omega arith)

-- and of values that are not negative, not negative
pub run-above : (f : Format) (k : ℕ) (x : ℕ → Float) (n : ℕ) → ((i : ℕ) → i < n → Upto 1 k (x i)) → ((i : ℕ) → i < n → T (le plus_zero (x i)))
    → n < 2 ^ prec f → k + prec f ≤ emax f → T (le plus_zero (run (add f) plus_zero x n))
unfolding run
run-above f k x zero u w h g = zero-zero
run-above f k x (suc n) u w h g =
    let l : n < 2 ^ prec f = omega arith in
    let v : (i : ℕ) → i < n → Upto 1 k (x i) = λ i m. u i (omega arith) in
    add-above f (run (add f) plus_zero x n) (x n) (run-upto f k x n v l g).finite (u n (le_refl (suc n))).finite
    (run-above f k x n v (λ i m. w i (omega arith)) l g) (w n (le_refl (suc n)))

-- ---- products and quotients
product : (p d q e a b w z : ℕ) → p ≤ a * w * d → q ≤ b * z * e → p * q ≤ a * b * (w * z) * (d * e)
product p d q e a b w z h k = le_trans (mul-le-mul h k) (le_of_eq (simp (mul_assoc, mul_comm, mul_left_comm)))

-- what is rounded, but for the sign
pub mul-round : (f : Format) (x y : Float) → T (finite x) → T (finite y) → (s : Bool) × (mul f x y ≡ round f s (num x * num y) (den x * den y))
unfolding mul
mul-round f nan y p q = absurd p
mul-round f (inf s) y p q = absurd p
mul-round f (fin s m e) nan p q = absurd q
mul-round f (fin s m e) (inf t) p q = absurd q
mul-round f (fin s m e) (fin t n d) p q = (unlike s t, refl)

pub div-round : (f : Format) (x y : Float) → T (finite x) → T (finite y) → 0 < num y → (s : Bool) × (div f x y ≡ round f s (num x * den y) (num y * den x))
unfolding div
div-round f nan y p q h = absurd p
div-round f (inf s) y p q h = absurd p
div-round f (fin s m e) nan p q h = absurd q
div-round f (fin s m e) (inf t) p q h = absurd q
div-round f (fin s m e) (fin t zero d) p q h = absurd (lt_irrefl 0 (subst (λ (n : ℕ). 0 < n) (zero-mul (up d)) h))
div-round f (fin s m e) (fin t (suc n) d) p q h = (
  unlike s t,
  ap (λ (b : Bool). cond b (cond (eqb m 0) nan (inf (unlike s t))) (round f (unlike s t) (m * up e * down d) (suc n * up d * down e)))
      (eqb-suc-zero n),
)

pub mul-upto : (f : Format) {a b j k : ℕ} {x y : Float} → Upto a j x → Upto b k y → a * b < 2 ^ prec f → j + k + prec f ≤ emax f
    → Upto (a * b) (j + k) (mul f x y)
mul-upto f {a} {b} {j} {k} {x} {y} u v h g =
    let (s, e) = mul-round f x y u.finite v.finite in
    subst (λ (z : Float). Upto (a * b) (j + k) z) (sym e)
    (round-upto f s (num x * num y) (den x * den y) (a * b) (j + k) (mul-pos (den_pos x) (den_pos y)) h g
    (subst (λ (w : ℕ). num x * num y ≤ a * b * w * (den x * den y)) (sym (pow-add 2 j k))
    (product (num x) (den x) (num y) (den y) a b (2 ^ j) (2 ^ k) u.size v.size)))

pub least-pos : {b : ℕ} {y : Float} → Least b y → 0 < num y
least-pos {b} {y} v = go (num y) v.size
  where
    go : (n : ℕ) → den y ≤ n * 2 ^ b → 0 < n
    go zero h = let z : den y ≤ 0 = le_trans h (le_of_eq (zero-mul (2 ^ b))) in absurd (lt_irrefl 0 (lt_of_lt_of_le (den_pos y) z))
    go (suc n) h = zero-lt-suc n

pub div-upto : (f : Format) {a b j : ℕ} {x y : Float} → Upto a j x → Least b y → a < 2 ^ prec f → j + b + prec f ≤ emax f → Upto a (j + b) (div f x y)
div-upto f {a} {b} {j} {x} {y} u v h g =
    let (s, e) = div-round f x y u.finite v.finite (least-pos v) in
    subst (λ (z : Float). Upto a (j + b) z) (sym e)
    (round-upto f s (num x * den y) (num y * den x) a (j + b) (mul-pos (least-pos v) (den_pos x)) h g
    (subst (λ (w : ℕ). num x * den y ≤ a * w * (num y * den x)) (sym (pow-add 2 j b))
    (le_trans (mul-le-mul u.size v.size) (le_of_eq (simp (mul_assoc, mul_comm, mul_left_comm))))))

-- the quotient of what is not small by what is not large is not small
pub div-least : (f : Format) {a k : ℕ} {x y : Float} → Least a x → Upto 1 k y → 0 < num y → a + k ≤ low f → T (finite (div f x y)) → Least (a + k) (div f x y)
div-least f {a} {k} {x} {y} u v n h g =
    let (s, e) = div-round f x y u.finite v.finite n in
    subst (λ (z : Float). Least (a + k) z) (sym e)
    (round-least f s (num x * den y) (num y * den x) (a + k) (mul-pos n (den_pos x)) h
    (subst (λ (w : ℕ). num y * den x ≤ num x * den y * w) (sym (pow-add 2 a k))
    (le_trans (mul-le-mul v.size u.size) (le_of_eq (turned (2 ^ k) (den y) (num x) (2 ^ a)))))
    (subst (λ (z : Float). T (finite z)) e g))
  where
    turned : (w d n z : ℕ) → 1 * w * d * (n * z) ≡ n * d * (z * w)
    turned w d n z = ap (λ (m : ℕ). m * d * (n * z)) (one-mul w) ∙ simp (mul_assoc, mul_comm, mul_left_comm)
