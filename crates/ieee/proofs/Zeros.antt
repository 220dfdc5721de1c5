-- Where -0.0 can come from. A sum of two values of the format never underflows, so it is a zero only where it is one
-- exactly, and then -0.0 only where both terms are. So a score that starts at 0.0 is never -0.0. Assumes nothing.
use mathlib.Core.Path.{◌≡◌, refl, sym, ap, ap₂, ◌∙◌, subst}
use Prim.Native.Nat.{ℕ, zero, suc, ◌+◌, ◌-◌, ◌*◌, ◌^◌, ◌≤◌, ◌<◌}
use native.Mathlib.Nat.{mul-pos, mul_assoc, mul_right_comm, zero-mul, zero-lt-suc, add-mul}
use native.Mathlib.Nat.{lt_irrefl, lt_of_le_of_lt, mul-le-mul_right, le_refl, eq-zero-or-pos}
use native.Mathlib.Omega.{arith}
use mathlib.Core.Logic.{inl, inr}
use mathlib.Core.Bool.{Bool, true, false, cond, beq, true≢false}
use lib.Dec.{T, ltb, eqb, ltb→lt, eqb→eq, T_not, not_T}
use lib.IntN.{ℤ}
use lib.Pow.{pow_pos}
use lib.Ieee.{Float, nan, inf, fin, Format, prec, emax, low, up, down, round, sum, add, sub, neg, fits}
use lib.Ieee.Fits.{and_i, and_l, and_r, up_pos, down_pos, add-fits, sub-fits}
use lib.Ieee.Scale.{finite}
use lib.Ieee.Positive.{num}
use Rattle.ieee.specs.Whole.{plus_zero, is_zero, run}
use Rattle.ieee.specs.Size.{Upto, Grid, Score}
use Rattle.ieee.proofs.Signs.{minus_sign, round-sign}
use Rattle.ieee.proofs.Sums.{sub-mul}
use Rattle.ieee.proofs.Sizes.{least-pos, round-least, upto_zero, upto-wider, add-upto, sub-upto}
use Rattle.ieee.proofs.Grids.{neg-grid, grid-fits}

-- ---- a zero has its sign, and is 0 in size
record Zero (s : Bool) (x : Float) : Type 0 where
  finite : T (finite x)
  sign : minus_sign x ≡ s
  size : num x ≡ 0

pub beq-is : (s t : Bool) → T (beq s t) → t ≡ s
beq-is false false h = refl
beq-is false true h = absurd h
beq-is true false h = absurd h
beq-is true true h = refl

zero-parts : (s : Bool) (x : Float) → T (is_zero s x) → Zero s x
zero-parts s nan h = absurd h
zero-parts s (inf t) h = absurd h
zero-parts s (fin t m e) h =
    record {
      finite = tt;
      sign = beq-is s t (and_l (beq s t) (eqb m 0) h);
      size = ap (λ (n : ℕ). n * up e)
          (eqb→eq m 0 (and_r (beq s t) (eqb m 0) h)) ∙ zero-mul (up e);
    }

-- ---- a rounded fraction that is a multiple of the smallest value is a zero only where the fraction is
pub round-zero : (f : Format) (s t : Bool) (a c n : ℕ) → 0 < c → a * 2 ^ low f ≡ n * c → T (is_zero t (round f s a c)) → (s ≡ t) × (a ≡ 0)
round-zero f s t a c n C e h = (sym (round-sign f s a c) ∙ z.sign, go n e)
  where
    z : Zero t (round f s a c)
    z = zero-parts t (round f s a c) h

    go : (n : ℕ) → a * 2 ^ low f ≡ n * c → a ≡ 0
    go zero e = elim (eq-zero-or-pos a) [
      | inl a0 ↦ a0
      | inr p ↦ absurd (lt_irrefl 0 (subst (λ (k : ℕ). 0 < k) (e ∙ zero-mul c) (mul-pos p (pow_pos (low f)))))
    ]
    go (suc n) e =
        absurd (lt_irrefl 0 (subst (λ (k : ℕ). 0 < k) z.size
        (least-pos (round-least f s a c (low f) C (le_refl (low f)) (omega (arith, e)) z.finite))))

-- ---- a sum
record BothMinus (s t : Bool) (a b : ℕ) : Type 0 where
  first : s ≡ true
  second : t ≡ true
  a-zero : a ≡ 0
  b-zero : b ≡ 0

sum-zero : (f : Format) (s t : Bool) (a b c i j : ℕ) → 0 < c → a * 2 ^ low f ≡ i * c → b * 2 ^ low f ≡ j * c → T (is_zero true (sum f s a t b c))
    → BothMinus s t a b
unfolding sum
sum-zero f false false a b c i j C p q h =
    absurd (true≢false (sym (round-zero f false true (a + b) c (i + j) C (add-mul a b (2 ^ low f) ∙ ap₂ ◌+◌ p q ∙ sym (add-mul i j c)) h).0))
sum-zero f true true a b c i j C p q h =
    let e = (round-zero f true true (a + b) c (i + j) C (add-mul a b (2 ^ low f) ∙ ap₂ ◌+◌ p q ∙ sym (add-mul i j c)) h).1 in
    record { first = refl; second = refl; a-zero = omega arith; b-zero = omega arith }
sum-zero f false true a b c i j C p q h = go (ltb a b) (ltb→lt a b) h
  where
    go : (v : Bool) → (T v → a < b) → T (is_zero true (cond v (round f true (b - a) c) (round f false (a - b) c))) → BothMinus false true a b
    go true l h =
        let e = (round-zero f true true (b - a) c (j - i) C (sym (sub-mul b a (2 ^ low f)) ∙ ap₂ ◌-◌ q p ∙ sub-mul j i c) h).1 in
        absurd (clash a b (l tt) e)
      where
        clash : (a b : ℕ) → a < b → b - a ≡ 0 → ⊥
        clash a b l e = omega arith
    go false l h = absurd (true≢false (sym (sym (round-sign f false (a - b) c) ∙ (zero-parts true (round f false (a - b) c) h).sign)))
sum-zero f true false a b c i j C p q h = go (ltb a b) (ltb b a) (ltb→lt b a) h
  where
    go : (v w : Bool) → (T w → b < a) → T (is_zero true (cond v (round f false (b - a) c) (round f w (a - b) c))) → BothMinus true false a b
    go true w l h = absurd (true≢false (sym (sym (round-sign f false (b - a) c) ∙ (zero-parts true (round f false (b - a) c) h).sign)))
    go false false l h = absurd (true≢false (sym (sym (round-sign f false (a - b) c) ∙ (zero-parts true (round f false (a - b) c) h).sign)))
    go false true l h =
        let e = (round-zero f true true (a - b) c (i - j) C (sym (sub-mul a b (2 ^ low f)) ∙ ap₂ ◌-◌ p q ∙ sub-mul i j c) h).1 in
        absurd (clash b a (l tt) e)
      where
        clash : (a b : ℕ) → a < b → b - a ≡ 0 → ⊥
        clash a b l e = omega arith

pub is-minus : (s : Bool) (m : ℕ) (e d : ℤ) → s ≡ true → m * up e * down d ≡ 0 → T (is_zero true (fin s m e))
is-minus s zero e d p h = and_i (beq true s) true (subst (λ (b : Bool). T (beq true b)) (sym p) tt) tt
is-minus s (suc m) e d p h = absurd (lt_irrefl 0 (subst (λ (k : ℕ). 0 < k) h (mul-pos (mul-pos (zero-lt-suc m) (up_pos e)) (down_pos d))))

-- A sum of values of the format is -0.0 only where both terms are.
pub add-minus-zero : (f : Format) (x y : Float) → Grid (low f) x → Grid (low f) y → T (is_zero true (add f x y)) → T (is_zero true x) × T (is_zero true y)
unfolding add
add-minus-zero f nan y u v h = absurd h
add-minus-zero f (inf s) y u v h = absurd u.finite
add-minus-zero f (fin s m e) nan u v h = absurd h
add-minus-zero f (fin s m e) (inf t) u v h = absurd v.finite
add-minus-zero f (fin s m e) (fin t n d) u v h =
    let b =
    sum-zero f s t (m * up e * down d) (n * up d * down e) (down e * down d) u.count v.count (mul-pos (down_pos e) (down_pos d))
    (mul_right_comm (m * up e) (down d) (2 ^ low f) ∙ ap (λ (k : ℕ). k * down d) u.size ∙ mul_assoc u.count (down e) (down d))
    (mul_right_comm (n * up d) (down e) (2 ^ low f) ∙ ap (λ (k : ℕ). k * down e) v.size ∙ mul_right_comm v.count (down d) (down e)
    ∙ mul_assoc v.count (down e) (down d)) h in
    (is-minus s m e d b.first b.a-zero, is-minus t n d e b.second b.b-zero)

neg-zero : (y : Float) → T (is_zero true (neg y)) → T (is_zero false y)
unfolding neg
neg-zero nan h = absurd h
neg-zero (inf s) h = absurd h
neg-zero (fin false m e) h = h
neg-zero (fin true m e) h = absurd h

-- A difference is -0.0 only as -0.0 - 0.0.
pub sub-minus-zero : (f : Format) (x y : Float) → Grid (low f) x → Grid (low f) y → T (is_zero true (sub f x y)) → T (is_zero true x) × T (is_zero false y)
unfolding sub
sub-minus-zero f x y u v h = let r = add-minus-zero f x (neg y) u (neg-grid v) h in (r.0, neg-zero y r.1)

-- ---- scores
pub score-zero : (f : Format) {k : ℕ} → Score f 0 k plus_zero
unfolding fits
score-zero f = record { fits = tt; upto = upto_zero; plain = tt }

pub score-wider : (f : Format) {a j : ℕ} {x : Float} (b k : ℕ) → Score f a j x → a * 2 ^ j ≤ b * 2 ^ k → Score f b k x
score-wider f b k u h = record { fits = u.fits; upto = upto-wider b k u.upto h; plain = u.plain }

-- a term may be -0.0
pub score-add : (f : Format) {a b n k : ℕ} {x y : Float} → Score f a k x → T (fits f y) → Upto b k y → a + b ≤ n → n < 2 ^ prec f
    → k + prec f ≤ emax f → Score f n k (add f x y)
score-add f {n = n} {k = k} {x = x} {y = y} u t v l h g =
    record {
      fits = add-fits f x y;
      upto = upto-wider n k (add-upto f u.upto v (lt_of_le_of_lt l h) g) (mul-le-mul_right (2 ^ k) l);
      plain =
          not_T (is_zero true (add f x y))
          (λ z. T_not (is_zero true x) u.plain
          (add-minus-zero f x y (grid-fits f x u.fits u.upto.finite) (grid-fits f y t v.finite) z).0);
    }

pub score-sub : (f : Format) {a b n k : ℕ} {x y : Float} → Score f a k x → T (fits f y) → Upto b k y → a + b ≤ n → n < 2 ^ prec f
    → k + prec f ≤ emax f → Score f n k (sub f x y)
score-sub f {n = n} {k = k} {x = x} {y = y} u t v l h g =
    record {
      fits = sub-fits f x y;
      upto = upto-wider n k (sub-upto f u.upto v (lt_of_le_of_lt l h) g) (mul-le-mul_right (2 ^ k) l);
      plain =
          not_T (is_zero true (sub f x y))
          (λ z. T_not (is_zero true x) u.plain
          (sub-minus-zero f x y (grid-fits f x u.fits u.upto.finite) (grid-fits f y t v.finite) z).0);
    }

-- n terms, each within 2 ^ k, from 0.0
pub score-run : (f : Format) (k : ℕ) (x : ℕ → Float) (n : ℕ) → ((i : ℕ) → i < n → T (fits f (x i)) × Upto 1 k (x i)) → n < 2 ^ prec f
    → k + prec f ≤ emax f → Score f n k (run (add f) plus_zero x n)
unfolding run
score-run f k x zero w h g = score-zero f
score-run f k x (suc n) w h g =
    let t = w n (le_refl (suc n)) in
    score-add f (score-run f k x n (λ i l. w i (omega arith)) (omega arith) g) t.0 t.1 (omega arith) h g
