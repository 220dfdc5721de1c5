-- Each operation on finite floats of either sign rounds a fraction (p - n) / c, and rounding keeps the order. So a sum
-- grows with each term, a product with each factor or against it, by the other's sign, and a quotient likewise.
-- Overflow to an infinity is included. Assumes nothing.
use mathlib.Core.Path.{◌≡◌, refl, sym, ap, ap₂, ◌∙◌, subst, subst₂}
use mathlib.Core.Logic.{◌⊎◌, inl, inr}
use Prim.Native.Nat.{ℕ, zero, suc, ◌+◌, ◌-◌, ◌*◌, ◌≤◌, ◌<◌}
use native.Mathlib.Nat.{mul_comm, mul-pos, mul-le-mul_right, zero-lt-suc, eq-zero-or-pos}
use native.Mathlib.Omega.{arith}
use mathlib.Core.Bool.{Bool, true, false, not, cond}
use lib.Dec.{T, ltb, eqb, ltb→lt, nltb→le, eqb-suc-zero}
use lib.IntN.{ℤ}
use lib.Ieee.{Float, nan, inf, fin, Format, binary32, binary64, up, down, unlike, round, sum, add, sub, mul, div, le, neg}
use lib.Ieee.Order.{round_mono}
use lib.Ieee.Scale.{finite}
use lib.Ieee.Positive.{den, den_pos, positive}
use Rattle.ieee.specs.Whole.{plus_zero}
use Rattle.ieee.proofs.Signs.{round-neg}
use Rattle.ieee.proofs.Order.{pp, nn, pp-mul, nn-mul, plus, less, le→cross, le_trans, neg-le, positive-num}

-- ---- r is (p - n) / c, rounded; a zero may have either sign
abbrev pub Rounds : Format → Float → ℕ → ℕ → ℕ → Type 0
Rounds f r p n c = ((k : ℕ) × (r ≡ round f false k c) × (p ≡ n + k)) ⊎ ((k : ℕ) × (r ≡ round f true k c) × (n ≡ p + k))

-- ---- results of either sign around zero
pub zero-round : (f : Format) → round f false 0 1 ≡ plus_zero
unfolding round
zero-round binary32 = refl
zero-round binary64 = refl

pub above : (f : Format) (k c : ℕ) → 0 < c → T (le plus_zero (round f false k c))
above f k c C = subst (λ (z : Float). T (le z (round f false k c))) (zero-round f) (round_mono f 0 1 k c (zero-lt-suc 0) C (omega arith))

at_zero : (f : Format) (c : ℕ) → 0 < c → T (le (round f false 0 c) plus_zero)
at_zero f c C = subst (λ (z : Float). T (le (round f false 0 c) z)) (zero-round f) (round_mono f 0 c 0 1 C (zero-lt-suc 0) (omega arith))

minus_is : (f : Format) (k c : ℕ) → round f true k c ≡ neg (round f false k c)
minus_is f k c = round-neg f false k c

-- the two zeros, either way
zeros : T (le (neg plus_zero) plus_zero) × T (le plus_zero (neg plus_zero))
unfolding le neg
zeros = (tt, tt)

turn : (f : Format) (k c j d : ℕ) → T (le (round f false j d) (round f false k c)) → T (le (round f true k c) (round f true j d))
turn f k c j d h = subst₂ (λ (x y : Float). T (le x y)) (sym (minus_is f k c)) (sym (minus_is f j d)) (neg-le (round f false j d) (round f false k c) h)

under : (f : Format) (k c : ℕ) → 0 < c → T (le (round f true k c) plus_zero)
under f k c C =
    subst (λ (x : Float). T (le x plus_zero)) (sym (minus_is f k c))
    (le_trans (neg (round f false k c)) (neg plus_zero) plus_zero (neg-le plus_zero (round f false k c) (above f k c C)) zeros.0)

at-minus-zero : (f : Format) (c : ℕ) → 0 < c → T (le plus_zero (round f true 0 c))
at-minus-zero f c C =
    subst (λ (x : Float). T (le plus_zero x)) (sym (minus_is f 0 c))
    (le_trans plus_zero (neg plus_zero) (neg (round f false 0 c)) zeros.1 (neg-le (round f false 0 c) plus_zero (at_zero f c C)))

-- ---- rounding keeps the order
gap : (p n k c p' n' k' c' : ℕ) → p ≡ n + k → p' ≡ n' + k' → p * c' + n' * c ≤ p' * c + n * c' → k * c' ≤ k' * c
gap p n k c p' n' k' c' e e' h = omega (arith, ap (λ (z : ℕ). z * c') e, ap (λ (z : ℕ). z * c) e')

both : (p n k c p' n' k' c' : ℕ) → p ≡ n + k → n' ≡ p' + k' → p * c' + n' * c ≤ p' * c + n * c' → k * c' + k' * c ≤ 0
both p n k c p' n' k' c' e e' h = omega (arith, ap (λ (z : ℕ). z * c') e, ap (λ (z : ℕ). z * c) e')

no-factor : (k c : ℕ) → 0 < c → k * c ≤ 0 → k ≡ 0
no-factor k c C h = elim (eq-zero-or-pos k) [
  | inl e ↦ e
  | inr p ↦ omega (arith, mul-pos p C)
]

rounds-mono : (f : Format) (r r' : Float) (p n c p' n' c' : ℕ) → Rounds f r p n c → Rounds f r' p' n' c' → 0 < c → 0 < c'
    → p * c' + n' * c ≤ p' * c + n * c' → T (le r r')
rounds-mono f r r' p n c p' n' c' (inl a) (inl b) C C' h =
    subst₂ (λ (x y : Float). T (le x y)) (sym a.1) (sym b.1) (round_mono f a.0 c b.0 c' C C' (gap p n a.0 c p' n' b.0 c' a.2 b.2 h))
rounds-mono f r r' p n c p' n' c' (inl a) (inr b) C C' h =
    let z : a.0 * c' + b.0 * c ≤ 0 = both p n a.0 c p' n' b.0 c' a.2 b.2 h in
    subst₂ (λ (x y : Float). T (le x y)) (ap (λ (k : ℕ). round f false k c) (sym (no-factor a.0 c' C' (omega arith))) ∙ sym a.1)
    (ap (λ (k : ℕ). round f true k c') (sym (no-factor b.0 c C (omega arith))) ∙ sym b.1)
    (le_trans (round f false 0 c) plus_zero (round f true 0 c') (at_zero f c C) (at-minus-zero f c' C'))
rounds-mono f r r' p n c p' n' c' (inr a) (inl b) C C' h =
    subst₂ (λ (x y : Float). T (le x y)) (sym a.1) (sym b.1)
    (le_trans (round f true a.0 c) plus_zero (round f false b.0 c') (under f a.0 c C) (above f b.0 c' C'))
rounds-mono f r r' p n c p' n' c' (inr a) (inr b) C C' h =
    subst₂ (λ (x y : Float). T (le x y)) (sym a.1) (sym b.1)
    (turn f a.0 c b.0 c' (round_mono f b.0 c' a.0 c C' C (gap n' p' b.0 c' n p a.0 c b.2 a.2 (omega arith))))

-- ---- each operation
sum-rounds : (f : Format) (s t : Bool) (a b c : ℕ) → Rounds f (sum f s a t b c) (pp s a + pp t b) (nn s a + nn t b) c
unfolding sum
sum-rounds f false false a b c = inl (a + b, refl, omega arith)
sum-rounds f true true a b c = inr (a + b, refl, omega arith)
sum-rounds f false true a b c = go (ltb a b) (ltb→lt a b) (nltb→le a b)
  where
    go : (u : Bool) → (T u → a < b) → (T (not u) → b ≤ a) → Rounds f (cond u (round f true (b - a) c) (round f false (a - b) c)) (a + 0) (0 + b) c
    go true h k = inr (b - a, refl, omega (arith, h tt))
    go false h k = inl (a - b, refl, omega (arith, k tt))
sum-rounds f true false a b c = go (ltb a b) (ltb b a) (ltb→lt a b) (nltb→le a b) (nltb→le b a)
  where
    go : (u v : Bool) → (T u → a < b) → (T (not u) → b ≤ a) → (T (not v) → a ≤ b)
        → Rounds f (cond u (round f false (b - a) c) (round f v (a - b) c)) (0 + b) (a + 0) c
    go true v h k l = inl (b - a, refl, omega (arith, h tt))
    go false true h k l = inr (a - b, refl, omega (arith, k tt))
    go false false h k l = inl (a - b, refl, omega (arith, k tt, l tt))

pub add_rounds : (f : Format) (x y : Float) → T (finite x) → T (finite y)
    → Rounds f (add f x y) (plus x * den y + plus y * den x) (less x * den y + less y * den x) (den x * den y)
unfolding add
add_rounds f nan y p q = absurd p
add_rounds f (inf s) y p q = absurd p
add_rounds f (fin s m e) nan p q = absurd q
add_rounds f (fin s m e) (inf t) p q = absurd q
add_rounds f (fin s m e) (fin t n d) p q =
    let X = m * up e in
    let Y = n * up d in
    subst₂ (λ (u v : ℕ). Rounds f (sum f s (X * down d) t (Y * down e) (down e * down d)) u v (down e * down d))
    (sym (ap₂ ◌+◌ (pp-mul s X (down d)) (pp-mul t Y (down e)))) (sym (ap₂ ◌+◌ (nn-mul s X (down d)) (nn-mul t Y (down e))))
    (sum-rounds f s t (X * down d) (Y * down e) (down e * down d))

mul-rounds : (f : Format) (x y : Float) → T (finite x) → T (finite y)
    → Rounds f (mul f x y) (plus x * plus y + less x * less y) (plus x * less y + less x * plus y) (den x * den y)
unfolding mul
mul-rounds f nan y p q = absurd p
mul-rounds f (inf s) y p q = absurd p
mul-rounds f (fin s m e) nan p q = absurd q
mul-rounds f (fin s m e) (inf t) p q = absurd q
mul-rounds f (fin false m e) (fin false n d) p q = inl (m * up e * (n * up d), refl, omega arith)
mul-rounds f (fin false m e) (fin true n d) p q = inr (m * up e * (n * up d), refl, omega arith)
mul-rounds f (fin true m e) (fin false n d) p q = inr (m * up e * (n * up d), refl, omega arith)
mul-rounds f (fin true m e) (fin true n d) p q = inl (m * up e * (n * up d), refl, omega arith)

div-fin : (f : Format) (s : Bool) (m : ℕ) (e : ℤ) (n : ℕ) (d : ℤ) → T (ltb 0 n)
    → div f (fin s m e) (fin false n d) ≡ round f (unlike s false) (m * up e * down d) (n * up d * down e)
unfolding div
div-fin f s m e zero d p = absurd p
div-fin f s m e (suc n) d p =
    ap (λ (b : Bool). cond b (cond (eqb m 0) nan (inf (unlike s false))) (round f (unlike s false) (m * up e * down d) (suc n * up d * down e)))
    (eqb-suc-zero n)

div-rounds : (f : Format) (x y : Float) → T (finite x) → T (positive y) → Rounds f (div f x y) (plus x * den y) (less x * den y) (plus y * den x)
div-rounds f nan y p q = absurd p
div-rounds f (inf s) y p q = absurd p
div-rounds f (fin s m e) nan p q = absurd q
div-rounds f (fin s m e) (inf t) p q = absurd q
div-rounds f (fin s m e) (fin true n d) p q = absurd q
div-rounds f (fin false m e) (fin false n d) p q = inl (m * up e * down d, div-fin f false m e n d q, omega arith)
div-rounds f (fin true m e) (fin false n d) p q = inr (m * up e * down d, div-fin f true m e n d q, omega arith)

-- ---- the sum grows with each term
sum_left : (px nx dx qx mx cx py ny dy : ℕ) → px * cx + mx * dx ≤ qx * dx + nx * cx
    → (px * dy + py * dx) * (cx * dy) + (mx * dy + ny * cx) * (dx * dy) ≤ (qx * dy + py * cx) * (dx * dy) + (nx * dy + ny * dx) * (cx * dy)
sum_left px nx dx qx mx cx py ny dy h = omega (arith, mul-le-mul_right (dy * dy) h)

add_left : (f : Format) (x x' y : Float) → T (finite x) → T (finite x') → T (finite y) → T (le x x') → T (le (add f x y) (add f x' y))
add_left f x x' y p p' q h =
    rounds-mono f (add f x y) (add f x' y) _ _ _ _ _ _ (add_rounds f x y p q) (add_rounds f x' y p' q) (mul-pos (den_pos x) (den_pos y))
    (mul-pos (den_pos x') (den_pos y))
    (sum_left (plus x) (less x) (den x) (plus x') (less x') (den x') (plus y) (less y) (den y) (le→cross x x' p p' h))

sum-right : (py ny dy qy my cy px nx dx : ℕ) → py * cy + my * dy ≤ qy * dy + ny * cy
    → (px * dy + py * dx) * (dx * cy) + (nx * cy + my * dx) * (dx * dy) ≤ (px * cy + qy * dx) * (dx * dy) + (nx * dy + ny * dx) * (dx * cy)
sum-right py ny dy qy my cy px nx dx h = omega (arith, mul-le-mul_right (dx * dx) h)

add_right : (f : Format) (x y y' : Float) → T (finite x) → T (finite y) → T (finite y') → T (le y y') → T (le (add f x y) (add f x y'))
add_right f x y y' p q q' h =
    rounds-mono f (add f x y) (add f x y') _ _ _ _ _ _ (add_rounds f x y p q) (add_rounds f x y' p q') (mul-pos (den_pos x) (den_pos y))
    (mul-pos (den_pos x) (den_pos y'))
    (sum-right (plus y) (less y) (den y) (plus y') (less y') (den y') (plus x) (less x) (den x) (le→cross y y' q q' h))

pub add-mono : (f : Format) (x x' y y' : Float) → T (finite x) → T (finite x') → T (finite y) → T (finite y') → T (le x x') → T (le y y')
    → T (le (add f x y) (add f x' y'))
add-mono f x x' y y' p p' q q' h k = le_trans (add f x y) (add f x' y) (add f x' y') (add_left f x x' y p p' q h) (add_right f x' y y' p' q q' k)

neg-finite : (x : Float) → T (finite x) → T (finite (neg x))
unfolding neg
neg-finite nan p = p
neg-finite (inf s) p = p
neg-finite (fin s m e) p = tt

-- the difference shrinks as its second term grows
pub sub-mono : (f : Format) (x x' y y' : Float) → T (finite x) → T (finite x') → T (finite y) → T (finite y') → T (le x x') → T (le y' y)
    → T (le (sub f x y) (sub f x' y'))
unfolding sub
sub-mono f x x' y y' p p' q q' h k = add-mono f x x' (neg y) (neg y') p p' (neg-finite y q) (neg-finite y' q') h (neg-le y' y k)

-- ---- signs, as a part that is 0
pub no_less : (x : Float) → T (finite x) → T (le plus_zero x) → less x ≡ 0
no_less nan p h = absurd p
no_less (inf s) p h = absurd p
no_less (fin false m e) p h = refl
no_less (fin true m e) p h = omega (arith, le→cross plus_zero (fin true m e) tt tt h)

no_plus : (x : Float) → T (finite x) → T (le x plus_zero) → plus x ≡ 0
no_plus nan p h = absurd p
no_plus (inf s) p h = absurd p
no_plus (fin true m e) p h = refl
no_plus (fin false m e) p h = omega (arith, le→cross (fin false m e) plus_zero tt tt h)

-- a difference is at most 0 where its first term is no more than the second
pub neg-plus : (y : Float) → T (finite y) → (plus (neg y) ≡ less y) × (less (neg y) ≡ plus y) × (den (neg y) ≡ den y)
unfolding neg
neg-plus nan p = absurd p
neg-plus (inf s) p = absurd p
neg-plus (fin false m e) p = (refl, refl, refl)
neg-plus (fin true m e) p = (refl, refl, refl)

pub sub-nonpos : (f : Format) (x y : Float) → T (finite x) → T (finite y) → T (le x y) → T (le (sub f x y) plus_zero)
unfolding sub
sub-nonpos f x y p q h =
    let n = neg-plus y q in
    rounds-mono f (add f x (neg y)) plus_zero _ _ _ 0 0 1 (add_rounds f x (neg y) p (neg-finite y q)) (inl (0, sym (zero-round f), refl))
    (mul-pos (den_pos x) (den_pos (neg y))) (zero-lt-suc 0)
    (rw (n.0, n.1, n.2) (omega (arith, le→cross x y p q h)))

-- and at least 0 where it is no less
pub sub-nonneg : (f : Format) (x y : Float) → T (finite x) → T (finite y) → T (le y x) → T (le plus_zero (sub f x y))
unfolding sub
sub-nonneg f x y p q h =
    let n = neg-plus y q in
    rounds-mono f plus_zero (add f x (neg y)) 0 0 1 _ _ _ (inl (0, sym (zero-round f), refl)) (add_rounds f x (neg y) p (neg-finite y q))
    (zero-lt-suc 0) (mul-pos (den_pos x) (den_pos (neg y)))
    (rw (n.0, n.1, n.2) (omega (arith, le→cross y x q p h)))

-- ---- the product
mul-up : (px nx dx qx mx cx py dy : ℕ) → px * cx + mx * dx ≤ qx * dx + nx * cx
    → (px * py + nx * 0) * (cx * dy) + (qx * 0 + mx * py) * (dx * dy) ≤ (qx * py + mx * 0) * (dx * dy) + (px * 0 + nx * py) * (cx * dy)
mul-up px nx dx qx mx cx py dy h = omega (arith, mul-le-mul_right (py * dy) h)

mul-down : (px nx dx qx mx cx ny dy : ℕ) → px * cx + mx * dx ≤ qx * dx + nx * cx
    → (qx * 0 + mx * ny) * (dx * dy) + (px * ny + nx * 0) * (cx * dy) ≤ (px * 0 + nx * ny) * (cx * dy) + (qx * ny + mx * 0) * (dx * dy)
mul-down px nx dx qx mx cx ny dy h = omega (arith, mul-le-mul_right (ny * dy) h)

-- with a factor that is not negative, and with one that is not positive
pub mul_mono : (f : Format) (x x' y : Float) → T (finite x) → T (finite x') → T (finite y) → T (le x x') → T (le plus_zero y) → T (le (mul f x y) (mul f x' y))
mul_mono f x x' y p p' q h k =
    rounds-mono f (mul f x y) (mul f x' y) _ _ _ _ _ _ (mul-rounds f x y p q) (mul-rounds f x' y p' q) (mul-pos (den_pos x) (den_pos y))
    (mul-pos (den_pos x') (den_pos y))
    (rw (no_less y q k) (mul-up (plus x) (less x) (den x) (plus x') (less x') (den x') (plus y) (den y) (le→cross x x' p p' h)))

pub mul-anti : (f : Format) (x x' y : Float) → T (finite x) → T (finite x') → T (finite y) → T (le x x') → T (le y plus_zero) → T (le (mul f x' y) (mul f x y))
mul-anti f x x' y p p' q h k =
    rounds-mono f (mul f x' y) (mul f x y) _ _ _ _ _ _ (mul-rounds f x' y p' q) (mul-rounds f x y p q) (mul-pos (den_pos x') (den_pos y))
    (mul-pos (den_pos x) (den_pos y))
    (rw (no_plus y q k) (mul-down (plus x) (less x) (den x) (plus x') (less x') (den x') (less y) (den y) (le→cross x x' p p' h)))

pub mul-swap : (f : Format) (x y : Float) → T (finite x) → T (finite y) → mul f x y ≡ mul f y x
unfolding mul
mul-swap f nan y p q = absurd p
mul-swap f (inf s) y p q = absurd p
mul-swap f (fin s m e) nan p q = absurd q
mul-swap f (fin s m e) (inf t) p q = absurd q
mul-swap f (fin false m e) (fin false n d) p q = ap₂ (λ (a b : ℕ). round f false a b) (mul_comm (m * up e) (n * up d)) (mul_comm (down e) (down d))
mul-swap f (fin false m e) (fin true n d) p q = ap₂ (λ (a b : ℕ). round f true a b) (mul_comm (m * up e) (n * up d)) (mul_comm (down e) (down d))
mul-swap f (fin true m e) (fin false n d) p q = ap₂ (λ (a b : ℕ). round f true a b) (mul_comm (m * up e) (n * up d)) (mul_comm (down e) (down d))
mul-swap f (fin true m e) (fin true n d) p q = ap₂ (λ (a b : ℕ). round f false a b) (mul_comm (m * up e) (n * up d)) (mul_comm (down e) (down d))

-- ---- the quotient by a positive float
positive-parts : (y : Float) → T (positive y) → T (finite y) × (0 < plus y) × (less y ≡ 0)
positive-parts nan p = absurd p
positive-parts (inf s) p = absurd p
positive-parts (fin true m e) p = absurd p
positive-parts (fin false m e) p = (tt, positive-num (fin false m e) p, refl)

quot-up : (px nx dx qx mx cx py dy : ℕ) → px * cx + mx * dx ≤ qx * dx + nx * cx
    → px * dy * (py * cx) + mx * dy * (py * dx) ≤ qx * dy * (py * dx) + nx * dy * (py * cx)
quot-up px nx dx qx mx cx py dy h = omega (arith, mul-le-mul_right (py * dy) h)

pub div_mono : (f : Format) (x x' y : Float) → T (finite x) → T (finite x') → T (positive y) → T (le x x') → T (le (div f x y) (div f x' y))
div_mono f x x' y p p' q h =
    let o = (positive-parts y q).1 in
    rounds-mono f (div f x y) (div f x' y) _ _ _ _ _ _ (div-rounds f x y p q) (div-rounds f x' y p' q) (mul-pos o (den_pos x)) (mul-pos o (den_pos x'))
    (quot-up (plus x) (less x) (den x) (plus x') (less x') (den x') (plus y) (den y) (le→cross x x' p p' h))

-- y ≤ y', both positive
quot-shrink : (px dx py dy qy cy : ℕ) → py * cy + 0 * dy ≤ qy * dy + 0 * cy
    → px * cy * (py * dx) + 0 * dy * (qy * dx) ≤ px * dy * (qy * dx) + 0 * cy * (py * dx)
quot-shrink px dx py dy qy cy h = omega (arith, mul-le-mul_right (px * dx) h)

quot-grow : (nx dx py dy qy cy : ℕ) → py * cy + 0 * dy ≤ qy * dy + 0 * cy → 0 * dy * (qy * dx) + nx * cy * (py * dx) ≤ 0 * cy * (py * dx) + nx * dy * (qy * dx)
quot-grow nx dx py dy qy cy h = omega (arith, mul-le-mul_right (nx * dx) h)

cross-positive : (y y' : Float) → T (positive y) → T (positive y') → T (le y y') → plus y * den y' + 0 * den y ≤ plus y' * den y + 0 * den y'
cross-positive y y' q q' h =
    let a = positive-parts y q in
    let b = positive-parts y' q' in
    subst₂ (λ (m n : ℕ). plus y * den y' + m * den y ≤ plus y' * den y + n * den y') b.2 a.2 (le→cross y y' a.0 b.0 h)

pub div-anti : (f : Format) (x y y' : Float) → T (finite x) → T (positive y) → T (positive y') → T (le y y') → T (le plus_zero x)
    → T (le (div f x y') (div f x y))
div-anti f x y y' p q q' h k =
    rounds-mono f (div f x y') (div f x y) _ _ _ _ _ _ (div-rounds f x y' p q') (div-rounds f x y p q) (mul-pos (positive-parts y' q').1 (den_pos x))
    (mul-pos (positive-parts y q).1 (den_pos x))
    (rw (no_less x p k) (quot-shrink (plus x) (den x) (plus y) (den y) (plus y') (den y') (cross-positive y y' q q' h)))

pub div-mono-below : (f : Format) (x y y' : Float) → T (finite x) → T (positive y) → T (positive y') → T (le y y') → T (le x plus_zero)
    → T (le (div f x y) (div f x y'))
div-mono-below f x y y' p q q' h k =
    rounds-mono f (div f x y) (div f x y') _ _ _ _ _ _ (div-rounds f x y p q) (div-rounds f x y' p q') (mul-pos (positive-parts y q).1 (den_pos x))
    (mul-pos (positive-parts y' q').1 (den_pos x))
    (rw (no_plus x p k) (quot-grow (less x) (den x) (plus y) (den y) (plus y') (den y') (cross-positive y y' q q' h)))

-- ---- results that are not negative
rounds-above : (f : Format) (r : Float) (p n c : ℕ) → Rounds f r p n c → 0 < c → n ≤ p → T (le plus_zero r)
rounds-above f r p n c a C h = rounds-mono f plus_zero r 0 0 1 p n c (inl (0, sym (zero-round f), refl)) a (zero-lt-suc 0) C (omega arith)

pub add-above : (f : Format) (x y : Float) → T (finite x) → T (finite y) → T (le plus_zero x) → T (le plus_zero y) → T (le plus_zero (add f x y))
add-above f x y p q h k =
    rounds-above f (add f x y) _ _ _ (add_rounds f x y p q) (mul-pos (den_pos x) (den_pos y)) (rw (no_less x p h, no_less y q k) (omega arith))

pub mul-above : (f : Format) (x y : Float) → T (finite x) → T (finite y) → T (le plus_zero x) → T (le plus_zero y) → T (le plus_zero (mul f x y))
mul-above f x y p q h k =
    rounds-above f (mul f x y) _ _ _ (mul-rounds f x y p q) (mul-pos (den_pos x) (den_pos y)) (rw (no_less x p h, no_less y q k) (omega arith))

pub square_above : (f : Format) (x : Float) → T (finite x) → T (le plus_zero (mul f x x))
square_above f x p = rounds-above f (mul f x x) _ _ _ (mul-rounds f x x p p) (mul-pos (den_pos x) (den_pos x)) (parts x)
  where
    parts : (x : Float) → plus x * less x + less x * plus x ≤ plus x * plus x + less x * less x
    parts nan = omega arith
    parts (inf s) = omega arith
    parts (fin false m e) = omega arith
    parts (fin true m e) = omega arith

pub div-above : (f : Format) (x y : Float) → T (finite x) → T (positive y) → T (le plus_zero x) → T (le plus_zero (div f x y))
div-above f x y p q h =
    rounds-above f (div f x y) _ _ _ (div-rounds f x y p q) (mul-pos (positive-parts y q).1 (den_pos x)) (rw (no_less x p h) (omega arith))
