-- The order of the finite floats of either sign, as one of fractions: x is (plus x - less x) / den x, and x ≤ y is a
-- comparison of naturals. With it `le` is transitive, total away from NaN, and turned round by `neg`. Assumes nothing.
use mathlib.Core.Path.{◌≡◌, refl, sym}
use mathlib.Core.Logic.{◌⊎◌, inl, inr}
use Prim.Native.Nat.{ℕ, zero, suc, ◌+◌, ◌*◌, ◌≤◌, ◌<◌}
use native.Mathlib.Nat.{eq-or-lt_of_le, zero-mul, mul-pos, zero-lt-suc, mul-le-mul_right, le_of_mul-le-mul_right}
use native.Mathlib.Omega.{arith}
use mathlib.Core.Bool.{Bool, true, false, not, ◌&&◌, ◌||◌}
use lib.Dec.{T, ltb, eqb, ltb→lt, lt→ltb, nltb→le, eqb→eq, not_T, T_not}
use lib.IntN.{ℤ}
use lib.Ieee.{Float, nan, inf, fin, up, down, below, level, lt, eq, le, neg, is_nan}
use lib.Ieee.Fits.{up_pos, and_i, and_l, and_r, eq→eqb}
use lib.Ieee.Scale.{finite}
use lib.Ieee.Positive.{num, den, den_pos, positive}
use Rattle.ieee.specs.Whole.{plus_zero, is_zero}
use Rattle.ieee.proofs.Integers.{by-test}

-- ---- a size with a sign, as a difference
abbrev pub pp : Bool → ℕ → ℕ
pp false a = a
pp true a = 0

abbrev pub nn : Bool → ℕ → ℕ
nn false a = 0
nn true a = a

or_split : (a b : Bool) → T (a || b) → T a ⊎ T b
or_split true b t = inl tt
or_split false b t = inr t

or_l : (a b : Bool) → T a → T (a || b)
or_l true b t = tt
or_l false b t = elim t [ ]

or_r : (a b : Bool) → T b → T (a || b)
or_r true b t = tt
or_r false b t = t

le-i : (a b : ℕ) (c : Bool) → a ≤ b → T (ltb a b || (eqb a b && (true || c)))
le-i a b c h = elim (eq-or-lt_of_le h) [
  | inl e ↦ or_r (ltb a b) (eqb a b && true) (and_i (eqb a b) true (eq→eqb e) tt)
  | inr l ↦ or_l (ltb a b) (eqb a b && true) (lt→ltb a b l)
]

-- what the two tests say, with the signs: ±a ≤ ±b
order→ : (s t : Bool) (a b : ℕ) → T (below s a t b || level s a t b) → pp s a + nn t b ≤ pp t b + nn s a
order→ false false a b h = elim (or_split (ltb a b) (eqb a b && true) h) [
  | inl t ↦ omega (arith, ltb→lt a b t)
  | inr t ↦ omega (arith, eqb→eq a b (and_l (eqb a b) true t))
]
order→ false true a b h = omega (arith, eqb→eq a b (and_l (eqb a b) (eqb a 0) h), eqb→eq a 0 (and_r (eqb a b) (eqb a 0) h))
order→ true false a b h = omega arith
order→ true true a b h = elim (or_split (ltb b a) (eqb a b && true) h) [
  | inl t ↦ omega (arith, ltb→lt b a t)
  | inr t ↦ omega (arith, eqb→eq a b (and_l (eqb a b) true t))
]

order← : (s t : Bool) (a b : ℕ) → pp s a + nn t b ≤ pp t b + nn s a → T (below s a t b || level s a t b)
order← false false a b h = le-i a b (eqb a 0) (omega arith)
order← false true a b h =
    let e : a ≡ b = omega arith in
    let z : a ≡ 0 = omega arith in
    and_i (eqb a b) (eqb a 0) (eq→eqb e) (eq→eqb z)
order← true false a b h =
    by-test 0 (a + b) (λ (p : 0 < a + b). or_l (ltb 0 (a + b)) (eqb a b && eqb a 0) (lt→ltb 0 (a + b) p))
    (λ (q : a + b ≤ 0).
    let e : a ≡ b = omega arith in
    let z : a ≡ 0 = omega arith in
    or_r (ltb 0 (a + b)) (eqb a b && eqb a 0) (and_i (eqb a b) (eqb a 0) (eq→eqb e) (eq→eqb z)))
order← true true a b h =
    let k : b ≤ a = omega arith in
    elim (eq-or-lt_of_le k) [
      | inl e ↦ or_r (ltb b a) (eqb a b && true) (and_i (eqb a b) true (eq→eqb (sym e)) tt)
      | inr l ↦ or_l (ltb b a) (eqb a b && true) (lt→ltb b a l)
    ]

order< : (s t : Bool) (a b : ℕ) → T (below s a t b) → pp s a + nn t b < pp t b + nn s a
order< false false a b h = omega (arith, ltb→lt a b h)
order< false true a b h = absurd h
order< true false a b h = omega (arith, ltb→lt 0 (a + b) h)
order< true true a b h = omega (arith, ltb→lt b a h)

order-not : (s t : Bool) (a b : ℕ) → T (not (below s a t b)) → pp t b + nn s a ≤ pp s a + nn t b
order-not false false a b h = omega (arith, nltb→le a b h)
order-not false true a b h = omega arith
order-not true false a b h = omega (arith, nltb→le 0 (a + b) h)
order-not true true a b h = omega (arith, nltb→le b a h)

-- ---- a finite float
abbrev pub plus : Float → ℕ
plus nan = 0
plus (inf s) = 0
plus (fin s m e) = pp s (m * up e)

abbrev pub less : Float → ℕ
less nan = 0
less (inf s) = 0
less (fin s m e) = nn s (m * up e)

-- x ≤ y
abbrev pub Cross : Float → Float → Type 0
Cross x y = plus x * den y + less y * den x ≤ plus y * den x + less x * den y

pub pp-mul : (s : Bool) (a c : ℕ) → pp s a * c ≡ pp s (a * c)
pp-mul false a c = refl
pp-mul true a c = zero-mul c

pub nn-mul : (s : Bool) (a c : ℕ) → nn s a * c ≡ nn s (a * c)
nn-mul false a c = zero-mul c
nn-mul true a c = refl

pub le→cross : (x y : Float) → T (finite x) → T (finite y) → T (le x y) → Cross x y
unfolding le
le→cross nan y p q h = absurd p
le→cross (inf s) y p q h = absurd p
le→cross (fin s m e) nan p q h = absurd q
le→cross (fin s m e) (inf t) p q h = absurd q
le→cross (fin s m e) (fin t n d) p q h =
    omega (
      arith,
      order→ s t (m * up e * down d) (n * up d * down e) h,
      pp-mul s (m * up e) (down d),
      nn-mul s (m * up e) (down d),
      pp-mul t
          (n * up d) (down e),
      nn-mul t (n * up d) (down e),
    )

pub cross→le : (x y : Float) → T (finite x) → T (finite y) → Cross x y → T (le x y)
unfolding le
cross→le nan y p q h = absurd p
cross→le (inf s) y p q h = absurd p
cross→le (fin s m e) nan p q h = absurd q
cross→le (fin s m e) (inf t) p q h = absurd q
cross→le (fin s m e) (fin t n d) p q h =
    order← s t (m * up e * down d) (n * up d * down e)
    (omega (arith, h, pp-mul s (m * up e) (down d), nn-mul s (m * up e) (down d), pp-mul t (n * up d) (down e), nn-mul t (n * up d) (down e)))

-- ---- `le` on all floats
cross-trans : (px nx dx py ny dy pz nz dz : ℕ) → 0 < dy → px * dy + ny * dx ≤ py * dx + nx * dy → py * dz + nz * dy ≤ pz * dy + ny * dz
    → px * dz + nz * dx ≤ pz * dx + nx * dz
cross-trans px nx dx py ny dy pz nz dz h k l = le_of_mul-le-mul_right (omega (arith, mul-le-mul_right dz k, mul-le-mul_right dx l)) h

not-nan-l : (x : Float) → T (le x nan) → ⊥
unfolding le
not-nan-l nan h = h
not-nan-l (inf s) h = h
not-nan-l (fin s m e) h = h

pub le_trans : (x y z : Float) → T (le x y) → T (le y z) → T (le x z)
unfolding le
le_trans nan y z h k = absurd h
le_trans (inf true) y nan h k = absurd (not-nan-l y k)
le_trans (inf true) y (inf true) h k = tt
le_trans (inf true) y (inf false) h k = tt
le_trans (inf true) y (fin s m e) h k = tt
le_trans (inf false) nan z h k = absurd h
le_trans (inf false) (inf true) z h k = absurd h
le_trans (inf false) (inf false) z h k = k
le_trans (inf false) (fin s m e) z h k = absurd h
le_trans (fin s m e) nan z h k = absurd h
le_trans (fin s m e) (inf true) z h k = absurd h
le_trans (fin s m e) (inf false) nan h k = absurd k
le_trans (fin s m e) (inf false) (inf true) h k = absurd k
le_trans (fin s m e) (inf false) (inf false) h k = tt
le_trans (fin s m e) (inf false) (fin u l g) h k = absurd k
le_trans (fin s m e) (fin t n d) nan h k = absurd k
le_trans (fin s m e) (fin t n d) (inf true) h k = absurd k
le_trans (fin s m e) (fin t n d) (inf false) h k = tt
le_trans (fin s m e) (fin t n d) (fin u l g) h k =
    let x = fin s m e in
    let y = fin t n d in
    let z = fin u l g in
    cross→le x z tt tt (cross-trans (plus x) (less x) (den x) (plus y) (less y) (den y) (plus z) (less z) (den z) (den_pos y) (le→cross x y tt tt h)
    (le→cross y z tt tt k))

-- `neg` turns the order round
neg-fin : (s : Bool) (m : ℕ) (e : ℤ) (t : Bool) (n : ℕ) (d : ℤ) → T (le (fin s m e) (fin t n d)) → T (le (fin (not t) n d) (fin (not s) m e))
neg-fin false m e false n d h = cross→le (fin true n d) (fin true m e) tt tt (omega (arith, le→cross (fin false m e) (fin false n d) tt tt h))
neg-fin false m e true n d h = cross→le (fin false n d) (fin true m e) tt tt (omega (arith, le→cross (fin false m e) (fin true n d) tt tt h))
neg-fin true m e false n d h = cross→le (fin true n d) (fin false m e) tt tt (omega (arith, le→cross (fin true m e) (fin false n d) tt tt h))
neg-fin true m e true n d h = cross→le (fin false n d) (fin false m e) tt tt (omega (arith, le→cross (fin true m e) (fin true n d) tt tt h))

pub neg-le : (x y : Float) → T (le x y) → T (le (neg y) (neg x))
unfolding le neg
neg-le nan y h = absurd h
neg-le (inf s) nan h = absurd (not-nan-l (inf s) h)
neg-le (inf true) (inf true) h = tt
neg-le (inf true) (inf false) h = tt
neg-le (inf false) (inf true) h = absurd h
neg-le (inf false) (inf false) h = tt
neg-le (inf true) (fin t n d) h = tt
neg-le (inf false) (fin t n d) h = absurd h
neg-le (fin s m e) nan h = absurd h
neg-le (fin s m e) (inf true) h = absurd h
neg-le (fin s m e) (inf false) h = tt
neg-le (fin s m e) (fin t n d) h = neg-fin s m e t n d h

-- what is not below is above, away from NaN
pub not-lt→le : (x y : Float) → T (not (is_nan x)) → T (not (is_nan y)) → T (not (lt x y)) → T (le y x)
unfolding le lt is_nan
not-lt→le nan y a b h = absurd a
not-lt→le (inf s) nan a b h = absurd b
not-lt→le (inf true) (inf true) a b h = tt
not-lt→le (inf true) (inf false) a b h = absurd h
not-lt→le (inf false) (inf true) a b h = tt
not-lt→le (inf false) (inf false) a b h = tt
not-lt→le (inf true) (fin t n d) a b h = absurd h
not-lt→le (inf false) (fin t n d) a b h = tt
not-lt→le (fin s m e) nan a b h = absurd b
not-lt→le (fin s m e) (inf true) a b h = tt
not-lt→le (fin s m e) (inf false) a b h = absurd h
not-lt→le (fin s m e) (fin t n d) a b h = order← t s (n * up d * down e) (m * up e * down d) (order-not s t (m * up e * down d) (n * up d * down e) h)

pub lt→le : (x y : Float) → T (lt x y) → T (le x y)
unfolding le
lt→le x y h = or_l (lt x y) (eq x y) h

-- of two floats at most one is below the other
pub le→not-lt : (x y : Float) → T (le x y) → T (not (lt y x))
unfolding le lt
le→not-lt nan y h = absurd h
le→not-lt (inf s) nan h = tt
le→not-lt (inf true) (inf true) h = tt
le→not-lt (inf true) (inf false) h = tt
le→not-lt (inf false) (inf true) h = absurd h
le→not-lt (inf false) (inf false) h = tt
le→not-lt (inf true) (fin t n d) h = tt
le→not-lt (inf false) (fin t n d) h = absurd h
le→not-lt (fin s m e) nan h = tt
le→not-lt (fin s m e) (inf true) h = absurd h
le→not-lt (fin s m e) (inf false) h = tt
le→not-lt (fin s m e) (fin t n d) h =
    let a = m * up e * down d in
    let b = n * up d * down e in
    not_T (below t b s a) (λ l. clash (pp s a + nn t b) (pp t b + nn s a) (order→ s t a b h) (omega (arith, order< t s b a l)))
  where
    clash : (p q : ℕ) → p ≤ q → q < p → ⊥
    clash p q h k = omega arith

pub lt→not-le : (x y : Float) → T (lt x y) → T (not (le y x))
lt→not-le x y t = not_T (le y x) (λ h. T_not (lt x y) (le→not-lt y x h) t)

-- where `le` holds no NaN stands
pub not-nan : (x y : Float) → T (le x y) → T (not (is_nan x)) × T (not (is_nan y))
unfolding le is_nan
not-nan nan y h = absurd h
not-nan (inf s) nan h = absurd (not-nan-l (inf s) h)
not-nan (inf s) (inf t) h = (tt, tt)
not-nan (inf s) (fin t n d) h = (tt, tt)
not-nan (fin s m e) nan h = absurd h
not-nan (fin s m e) (inf t) h = (tt, tt)
not-nan (fin s m e) (fin t n d) h = (tt, tt)

pub finite-not-nan : (x : Float) → T (finite x) → T (not (is_nan x))
unfolding is_nan
finite-not-nan nan p = p
finite-not-nan (inf s) p = tt
finite-not-nan (fin s m e) p = tt

-- two floats, each at most the other, are equal
pub le-le→eq : (x y : Float) → T (le x y) → T (le y x) → T (eq x y)
unfolding le
le-le→eq x y h k = elim (or_split (lt x y) (eq x y) h) [
  | inl l ↦ absurd (T_not (lt x y) (le→not-lt y x k) l)
  | inr e ↦ e
]

pub le_refl : (x : Float) → T (not (is_nan x)) → T (le x x)
unfolding le is_nan
le_refl nan p = absurd p
le_refl (inf true) p = tt
le_refl (inf false) p = tt
le_refl (fin s m e) p = let a = m * up e * down e in order← s s a a (omega arith)

-- what is not at most 0.0 is positive: a divisor that a test let through
pub above_zero : (x : Float) → T (finite x) → T (not (le x plus_zero)) → T (positive x)
above_zero nan p h = absurd p
above_zero (inf s) p h = absurd p
above_zero (fin true m e) p h = absurd (T_not (le (fin true m e) plus_zero) h (cross→le (fin true m e) plus_zero tt tt (omega arith)))
above_zero (fin false zero e) p h = absurd (T_not (le (fin false zero e) plus_zero) h (cross→le (fin false zero e) plus_zero tt tt (omega arith)))
above_zero (fin false (suc m) e) p h = lt→ltb 0 (suc m) (zero-lt-suc m)

pub positive-num : (x : Float) → T (positive x) → 0 < num x
positive-num nan p = absurd p
positive-num (inf s) p = absurd p
positive-num (fin true m e) p = absurd p
positive-num (fin false m e) p = mul-pos (ltb→lt 0 m p) (up_pos e)

pub positive-le : (x : Float) → T (positive x) → T (le plus_zero x)
positive-le nan p = absurd p
positive-le (inf s) p = absurd p
positive-le (fin true m e) p = absurd p
positive-le (fin false m e) p = cross→le plus_zero (fin false m e) tt tt (omega arith)

pub positive-plain : (x : Float) → T (positive x) → T (not (is_zero true x))
positive-plain nan p = absurd p
positive-plain (inf s) p = absurd p
positive-plain (fin true m e) p = absurd p
positive-plain (fin false m e) p = tt

-- ---- `<=`, `<` and `==` together
pub eq→le : (x y : Float) → T (eq x y) → T (le x y)
unfolding le
eq→le x y e = or_r (lt x y) (eq x y) e

sure : (t : Bool) → (T (not t) → ⊥) → T t
sure true h = tt
sure false h = h tt

pub le-lt : (x y z : Float) → T (le x y) → T (lt y z) → T (lt x z)
le-lt x y z h k =
    sure (lt x z) (λ n.
    T_not (le z y) (lt→not-le y z k) (le_trans z x y (not-lt→le x z (not-nan x y h).0 (not-nan y z (lt→le y z k)).1 n) h))

pub lt-le : (x y z : Float) → T (lt x y) → T (le y z) → T (lt x z)
lt-le x y z h k =
    sure (lt x z) (λ n.
    T_not (le y x) (lt→not-le x y h) (le_trans y z x k (not-lt→le x z (not-nan x y (lt→le x y h)).0 (not-nan y z k).1 n)))
