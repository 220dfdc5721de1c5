-- How far a rounded sum is from the exact one: at most half a unit in the last place. Exact values are counted in units
-- of the format's smallest, of which every finite value is a whole number. Assumes nothing.
use mathlib.Core.Path.{◌≡◌, sym, ap, ap₂, ◌∙◌, subst, subst₂}
use mathlib.Core.Logic.{inl, inr}
use Prim.Native.Nat.{ℕ, zero, suc, ◌+◌, ◌-◌, ◌*◌, ◌/◌, ◌%◌, ◌^◌, ◌≤◌, ◌<◌, compare, Ordering}
use native.Mathlib.Nat.{le_refl, le_trans, le_of_eq, le_antisymm, lt_of_le_of_lt, add-zero, zero-add, mul_comm}
use native.Mathlib.Nat.{mul_right_comm, mul-pos, mul-le-mul_right, le_of_mul-le-mul_right, mul-div_cancel, div-add-mod', mod-lt}
use native.Mathlib.Omega.{arith}
use mathlib.Core.Bool.{Bool, true, false, not}
use lib.Dec.{T, is_le, compare_is_eq, leb→le, nleb→lt, eqb→eq}
use lib.Pow.{pow-add, pow_pos, pow_mono}
use lib.Signed.{lt_z, ◌≤ℤ◌, lt_z_no}
use lib.IntN.{ℤ, pos, neg_ℤ, nat_abs, ◌+ℤ◌, ◌-ℤ◌, ◌*ℤ◌, +ℤ_assoc, +ℤ_comm, +ℤ_idl, +ℤ_idr}
use lib.Ieee.{Float, nan, inf, fin, Format, prec, emax, low, up, down, size, nearest, round, add, sub, neg, below, lt, le, fits}
use lib.Ieee.Exact.{HasValue, units_val}
use lib.Ieee.Digits.{size-le, size_reaches}
use lib.Ieee.Fits.{two, round_is, down_pos}
use lib.Ieee.Nearest.{closest}
use lib.Ieee.Order.{drop, kept}
use lib.Ieee.Scale.{grid, finite, round_under}
use lib.Ieee.Positive.{num, den}
use Rattle.ieee.specs.Whole.{plus_zero, signed, Whole, whole, run}
use Rattle.ieee.specs.Size.{Upto, Grid}
use Rattle.ieee.specs.Units.{Units, units, Near}
use Rattle.ieee.proofs.Integers.{by-test, abs-signed, neg-signed, abs-add, +ℤ-swap, times-signed, like, sub-down, below-is}
use Rattle.ieee.proofs.Order.{pp, nn, le→not-lt}
use Rattle.ieee.proofs.Sums.{left, right, below-scale}
use Rattle.ieee.proofs.Rounds.{Rounds, add_rounds}
use Rattle.ieee.proofs.Sizes.{round-size, add-upto, run-upto-from}
use Rattle.ieee.proofs.Grids.{both, less-part, grid-fits}

-- ---- the nearest whole number is at most a half away
half : (a b : ℕ) → 0 < b → (closest a b * b * 2 ≤ a * 2 + b) × (a * 2 ≤ closest a b * b * 2 + b)
half a b B = go (compare (a % b * 2) b) (a / b) (a % b) (div-add-mod' a b) (mod-lt a B) (leb→le (a % b * 2) b) (nleb→lt (a % b * 2) b) (eqb→eq (a % b * 2) b)
  where
    odd-one : (q : ℕ) → q % 2 ≤ 1
    odd-one q = omega arith

    go : (o : Ordering) (q r : ℕ) → q * b + r ≡ a → r < b → (T (is_le o) → r * 2 ≤ b) → (T (not (is_le o)) → b < r * 2) → (T (compare_is_eq o) → r * 2 ≡ b)
        → (nearest q o * b * 2 ≤ a * 2 + b) × (a * 2 ≤ nearest q o * b * 2 + b)
    go Ordering.lt q r e m h k t = let l : r * 2 ≤ b = h tt in (omega arith, omega arith)
    go Ordering.eq q r e m h k t = let l : r * 2 ≡ b = t tt in (omega (arith, mul-le-mul_right b (odd-one q)), omega arith)
    go Ordering.gt q r e m h k t = let l : b < r * 2 = k tt in (omega arith, omega arith)

-- ---- N units, N ≤ 2 ^ (p + 1 + h), with only the p leading digits kept: at most 2 ^ h units are lost
-- q * 2 ^ k is at most half of 2 ^ k away, and k at most h + 1. Where N is the power itself, k may be one more, and then nothing is lost.
digits : (p N h q k : ℕ) → 0 < p → k ≡ size N - p → N ≤ 2 ^ (p + suc h) → q * 2 ^ k * 2 ≤ N * 2 + 2 ^ k → N * 2 ≤ q * 2 ^ k * 2 + 2 ^ k
    → (q * 2 ^ k ≤ N + 2 ^ h) × (N ≤ q * 2 ^ k + 2 ^ h)
digits p N h q k P e l hi lo = by-test (suc h) k power few
  where
    few : k ≤ suc h → (q * 2 ^ k ≤ N + 2 ^ h) × (N ≤ q * 2 ^ k + 2 ^ h)
    few m = let w : 2 ^ k ≤ 2 ^ suc h = pow_mono m in (omega arith, omega arith)

    power : suc h < k → (q * 2 ^ k ≤ N + 2 ^ h) × (N ≤ q * 2 ^ k + 2 ^ h)
    power m =
        let least : 2 ^ (p + suc h) ≤ N = size_reaches N (p + suc h) (omega arith) in
        let most : size N ≤ suc (p + suc h) = size-le N (suc (p + suc h)) (lt_of_le_of_lt l (omega (arith, pow_pos (p + suc h)))) in
        let d : p + suc h ≡ p - 1 + k = omega arith in
        let is : N ≡ 2 ^ (p - 1) * 2 ^ k = le_antisymm l least ∙ ap (λ (z : ℕ). 2 ^ z) d ∙ pow-add 2 (p - 1) k in
        let u : q * 2 ≤ 2 ^ (p - 1) * 2 + 1 = le_of_mul-le-mul_right (omega (arith, hi, is)) (pow_pos k) in
        let v : 2 ^ (p - 1) * 2 ≤ q * 2 + 1 = le_of_mul-le-mul_right (omega (arith, lo, is)) (pow_pos k) in
        let same : q ≡ 2 ^ (p - 1) = omega arith in
        let kept : q * 2 ^ k ≡ N = ap (λ (z : ℕ). z * 2 ^ k) same ∙ sym is in
        (omega arith, omega arith)

-- a fraction that is N units, rounded
grid-near : (f : Format) (a c N h : ℕ) → 0 < c → a * 2 ^ low f ≡ N * c → N ≤ 2 ^ (prec f + suc h) → (grid f a c ≤ N + 2 ^ h) × (N ≤ grid f a c + 2 ^ h)
grid-near f a c N h C e l =
    let n = a * 2 ^ low f in
    let k = drop (prec f) n c in
    let q = kept (prec f) n c in
    let (hi, lo) = half n (c * 2 ^ k) (mul-pos C (pow_pos k)) in
    digits (prec f) N h q k (omega (arith, two f)) (ap (λ (z : ℕ). size z - prec f) (ap (λ (z : ℕ). z / c) e ∙ mul-div_cancel N C)) l
    (le_of_mul-le-mul_right (above q c (2 ^ k) n N e hi) C) (le_of_mul-le-mul_right (below q c (2 ^ k) n N e lo) C)
  where
    above : (q c w n N : ℕ) → n ≡ N * c → q * (c * w) * 2 ≤ n * 2 + c * w → q * w * 2 * c ≤ (N * 2 + w) * c
    above q c w n N e h = omega arith

    below : (q c w n N : ℕ) → n ≡ N * c → n * 2 ≤ q * (c * w) * 2 + c * w → N * 2 * c ≤ (q * w * 2 + w) * c
    below q c w n N e h = omega arith

-- ---- a rounded fraction, with its sign
of-value : (x : Float) (s : Bool) (j n : ℕ) → HasValue x s n (2 ^ j) → Units j x (signed s n)
of-value nan s j n v = absurd v
of-value (inf t) s j n v = absurd v
of-value (fin t m e) s j n v = subst (λ (u : Bool). Units j (fin t m e) (signed u n)) v.0 (units t m e n v.1)

-- g is n and some more, or less
record Off (s : Bool) (n g d : ℕ) : Type 0 where
  by : ℤ
  is : signed s n +ℤ by ≡ signed s g
  small : nat_abs by ≤ d

off-by : (s : Bool) (n g d : ℕ) → g ≤ n + d → n ≤ g + d → Off s n g d
off-by s n g d h k = by-test g n less-than more-than
  where
    take : (s : Bool) (a b : ℕ) → b ≤ a → signed s a +ℤ signed (not s) b ≡ signed s (a - b)
    take false a b h = sub-down true a b h
    take true a b h = sub-down false a b h

    less-than : g < n → Off s n g d
    less-than l =
        let e : n - (n - g) ≡ g = omega arith in
        let m : n - g ≤ d = omega arith in
        record {
          by = signed (not s) (n - g);
          is = take s n (n - g) (omega arith)
              ∙ ap (signed s) e;
          small = le_trans (le_of_eq (abs-signed (not s) (n - g))) m;
        }

    more-than : n ≤ g → Off s n g d
    more-than l =
        let e : n + (g - n) ≡ g = omega arith in
        let m : g - n ≤ d = omega arith in
        record { by = signed s (g - n); is = like s n (g - n) ∙ ap (signed s) e; small = le_trans (le_of_eq (abs-signed s (g - n))) m }

round-near : (f : Format) (s : Bool) (a c N h : ℕ) → 0 < c → a * 2 ^ low f ≡ N * c → N ≤ 2 ^ (prec f + suc h) → T (finite (round f s a c))
    → Near (low f) (2 ^ h) (round f s a c) (signed s N)
round-near f s a c N h C e l F =
    let (hi, lo) = grid-near f a c N h C e l in
    let o = off-by s N (grid f a c) (2 ^ h) hi lo in
    let v : HasValue (round f s a c) s (grid f a c) (2 ^ low f) =
    subst (λ (x : Float). HasValue x s (grid f a c) (2 ^ low f)) (sym (round_is f s a c))
    (units_val f s (kept (prec f) (a * 2 ^ low f) c) (drop (prec f) (a * 2 ^ low f) c) (round_under f a c (subst T (round-size f s a c).0 F))) in
    record {
      off = o.by;
      is = subst (λ (z : ℤ). Units (low f) (round f s a c) z) (sym o.is)
          (of-value (round f s a c) s (low f) (grid f a c) v);
      small = o.small;
    }

-- ---- a sum
-- z is P - Q units, with the sign s
one_way : (f : Format) (s : Bool) (r : Float) (p q k c P Q h : ℕ) (z : ℤ) → r ≡ round f s k c → p ≡ q + k → 0 < c → p * 2 ^ low f ≡ P * c
    → q * 2 ^ low f ≡ Q * c
    → (Q ≤ P → z ≡ signed s (P - Q)) → nat_abs z ≤ 2 ^ (prec f + suc h) → T (finite r) → Near (low f) (2 ^ h) r z
one_way f s r p q k c P Q h z e i C u v is l F =
    let d = is (le_of_mul-le-mul_right (at_most p q k c (2 ^ low f) P Q i u v) C) in
    subst₂ (λ (x : Float) (n : ℤ). Near (low f) (2 ^ h) x n) (sym e) (sym d)
    (round-near f s k c (P - Q) h C (less-part p q k c (2 ^ low f) P Q i u v) (le_trans (le_of_eq (sym (abs-signed s (P - Q)) ∙ ap nat_abs (sym d))) l)
    (subst (λ (x : Float). T (finite x)) e F))
  where
    at_most : (p q k c w P Q : ℕ) → p ≡ q + k → p * w ≡ P * c → q * w ≡ Q * c → Q * c ≤ P * c
    at_most p q k c w P Q i u v = omega (arith, ap (λ (z : ℕ). z * w) i)

rounds-near : (f : Format) (r : Float) (p q c P Q h : ℕ) → Rounds f r p q c → 0 < c → p * 2 ^ low f ≡ P * c → q * 2 ^ low f ≡ Q * c
    → nat_abs (signed false P +ℤ signed true Q) ≤ 2 ^ (prec f + suc h) → T (finite r) → Near (low f) (2 ^ h) r (signed false P +ℤ signed true Q)
rounds-near f r p q c P Q h (inl (k, e, i)) C u v l F = one_way f false r p q k c P Q h _ e i C u v (λ o. sub-down true P Q o) l F
rounds-near f r p q c P Q h (inr (k, e, i)) C u v l F =
    one_way f true r q p k c Q P h _ e i C v u (λ o. +ℤ_comm (signed false P) (signed true Q) ∙ sub-down false Q P o) l F

-- a sign and a size, as a difference
parts : (s : Bool) (a k w d : ℕ) → a * w ≡ k * d → (pp s a * w ≡ pp s k * d) × (nn s a * w ≡ nn s k * d)
parts false a k w d e = (e, omega arith)
parts true a k w d e = (omega arith, e)

difference : (s t : Bool) (k l : ℕ) → signed s k +ℤ signed t l ≡ signed false (pp s k + pp t l) +ℤ signed true (nn s k + nn t l)
difference false false k l = sym (+ℤ_idr (pos (k + l)))
difference true true k l = like true k l ∙ sym (+ℤ_idl (signed true (k + l)))
difference false true k l = sym (ap₂ (λ (a b : ℕ). signed false a +ℤ signed true b) (add-zero k) (zero-add l))
difference true false k l = +ℤ_comm (signed true k) (signed false l) ∙ sym (ap₂ (λ (a b : ℕ). signed false a +ℤ signed true b) (zero-add l) (add-zero k))

-- THE ROUNDING LAW: an exact sum of at most 2 ^ (prec + 1 + h) units loses at most 2 ^ h of them. For f32 that is: within ±2 ^ k, off by at most
-- 2 ^ (k - 25), as 2 ^ (k + 149) units are 2 ^ k.
pub add-near : (f : Format) (h : ℕ) {x y : Float} {a b : ℤ} → Units (low f) x a → Units (low f) y b → nat_abs (a +ℤ b) ≤ 2 ^ (prec f + suc h)
    → T (finite (add f x y))
    → Near (low f) (2 ^ h) (add f x y) (a +ℤ b)
add-near f h (units s m e k u) (units t n d l v) small F =
    let w = 2 ^ low f in
    let X = m * up e in
    let Y = n * up d in
    let (px, nx) = parts s X k w (down e) u in
    let (py, ny) = parts t Y l w (down d) v in
    let z = difference s t k l in
    subst (λ (i : ℤ). Near (low f) (2 ^ h) (add f (fin s m e) (fin t n d)) i) (sym z)
    (rounds-near f (add f (fin s m e) (fin t n d)) _ _ _ (pp s k + pp t l) (nn s k + nn t l) h (add_rounds f (fin s m e) (fin t n d) tt tt)
    (mul-pos (down_pos e) (down_pos d))
    (both (pp s X) (down e) (pp t Y) (down d) (pp s k) (pp t l) w px py) (both (nn s X) (down e) (nn t Y) (down d) (nn s k) (nn t l) w nx ny)
    (subst (λ (i : ℤ). nat_abs i ≤ 2 ^ (prec f + suc h)) z small) F)

-- ---- a sum of two that are off, and of n of them, from the left
pub units-size : {n k j : ℕ} {x : Float} {z : ℤ} → Upto n k x → Units j x z → nat_abs z ≤ n * 2 ^ (k + j)
units-size {n} {k} {j} u (units s m e i p) =
    le_trans (le_of_eq (abs-signed s i))
    (le_of_mul-le-mul_right
    (subst (λ (w : ℕ). i * down e ≤ n * w * down e) (sym (pow-add 2 k j)) (cut (m * up e) i (down e) (2 ^ k) (2 ^ j) u.size p)) (down_pos e))
  where
    cut : (a i d w v : ℕ) → a ≤ n * w * d → a * v ≡ i * d → i * d ≤ n * (w * v) * d
    cut a i d w v h p = omega (arith, mul-le-mul_right v h)

pub near_add : (f : Format) (h : ℕ) {m n k c d : ℕ} {x y : Float} {a b : ℤ} → Upto m k x → Upto n k y → Near (low f) c x a → Near (low f) d y b
    → m + n < 2 ^ prec f → k + prec f ≤ emax f → (m + n) * 2 ^ (k + low f) ≤ 2 ^ (prec f + suc h) → Near (low f) (c + d + 2 ^ h) (add f x y) (a +ℤ b)
near_add f h {m} {n} {k} {x = x} {y = y} {a = a} {b = b} u v p q few room l =
    let A = a +ℤ p.off in
    let B = b +ℤ q.off in
    let size : nat_abs (A +ℤ B) ≤ 2 ^ (prec f + suc h) =
    le_trans (abs-add A B) (le_trans (omega (arith, units-size u p.is, units-size v q.is)) l) in
    let r = add-near f h p.is q.is size (add-upto f u v few room).finite in
    record {
      off = p.off +ℤ q.off +ℤ r.off;
      is =
          subst (λ (z : ℤ). Units (low f) (add f x y) z)
          (ap (λ (z : ℤ). z +ℤ r.off) (+ℤ-swap a p.off b q.off) ∙ +ℤ_assoc (a +ℤ b) (p.off +ℤ q.off) r.off) r.is;
      small = le_trans (abs-add (p.off +ℤ q.off) r.off) (omega (arith, abs-add p.off q.off, p.small, q.small, r.small));
    }

pub near-wider : {j c : ℕ} {x : Float} {z : ℤ} (d : ℕ) → Near j c x z → c ≤ d → Near j d x z
near-wider d p h = record { off = p.off; is = p.is; small = le_trans p.small h }

pub near-units : {j : ℕ} {x : Float} {z : ℤ} → Units j x z → Near j 0 x z
near-units {j} {x} {z} u = record { off = pos 0; is = subst (λ (a : ℤ). Units j x a) (sym (+ℤ_idr z)) u; small = le_refl 0 }

pub units-zero : {j : ℕ} → Units j plus_zero (pos 0)
units-zero = units false 0 (pos 0) 0 (omega arith)

-- n terms, each within m * 2 ^ k and at most d units off, from what is exactly s units and within c * 2 ^ k: each step loses at most 2 ^ h units more
pub run-near : (f : Format) (k h c m d : ℕ) {a : Float} {s : ℤ} (x : ℕ → Float) (z : ℕ → ℤ) (n : ℕ) → Upto c k a → Units (low f) a s
    → ((i : ℕ) → i < n → Upto m k (x i)) → ((i : ℕ) → i < n → Near (low f) d (x i) (z i))
    → c + n * m < 2 ^ prec f → k + prec f ≤ emax f → (c + n * m) * 2 ^ (k + low f) ≤ 2 ^ (prec f + suc h)
    → Near (low f) (n * (d + 2 ^ h)) (run (add f) a x n) (run ◌+ℤ◌ s z n)
unfolding run
run-near f k h c m d x z zero b e u v few room l = near-wider (0 * (d + 2 ^ h)) (near-units e) (omega arith)
run-near f k h c m d x z (suc n) b e u v few room l =
    near-wider (suc n * (d + 2 ^ h))
    (near_add f h (run-upto-from f c m k x n b (λ i q. u i (omega arith)) (omega arith) room) (u n (le_refl (suc n)))
    (run-near f k h c m d x z n b e (λ i q. u i (omega arith)) (λ i q. v i (omega arith)) (omega arith) room (omega arith)) (v n (le_refl (suc n)))
    (omega arith) room (le_trans (omega arith) l))
    (omega arith)

-- ---- a difference
neg-units : {j : ℕ} {x : Float} {z : ℤ} → Units j x z → Units j (neg x) (neg_ℤ z)
unfolding neg
neg-units {j} (units s m e k p) = subst (λ (z : ℤ). Units j (fin (not s) m e) z) (sym (neg-signed s k)) (units (not s) m e k p)

pub sub-near : (f : Format) (h : ℕ) {x y : Float} {a b : ℤ} → Units (low f) x a → Units (low f) y b → nat_abs (a -ℤ b) ≤ 2 ^ (prec f + suc h)
    → T (finite (sub f x y))
    → Near (low f) (2 ^ h) (sub f x y) (a -ℤ b)
unfolding sub
sub-near f h p q small F = add-near f h p (neg-units q) small F

-- ---- the order of floats is that of their units
pub lt-units : {j : ℕ} {x y : Float} {a b : ℤ} → Units j x a → Units j y b → lt x y ≡ lt_z a b
unfolding lt
lt-units {j} (units s m e k p) (units t n d l q) =
    let c = down e * down d in
    sym (below-scale s t (m * up e * down d) (n * up d * down e) (2 ^ j) (pow_pos j))
    ∙ ap₂ (λ (x y : ℕ). below s x t y) (mul_right_comm (m * up e) (down d) (2 ^ j) ∙ left (m * up e * 2 ^ j) k (down e) (down d) p)
    (mul_right_comm (n * up d) (down e) (2 ^ j) ∙ right (n * up d * 2 ^ j) l (down e) (down d) q)
    ∙ below-scale s t k l c (mul-pos (down_pos e) (down_pos d))
    ∙ below-is s t k l

pub le-units : {j : ℕ} {x y : Float} {a b : ℤ} → Units j x a → Units j y b → T (le x y) → a ≤ℤ b
le-units {x = x} {y = y} p q h = lt_z_no (subst (λ (t : Bool). T (not t)) (lt-units q p) (le→not-lt x y h))

-- ---- every multiple of 2 ^ -j is some number of units, so every finite value of the format is, with its smallest one for the unit
abbrev pub in_units : ℕ → Float → ℤ
in_units j nan = pos 0
in_units j (inf s) = pos 0
in_units j (fin s m e) = signed s (m * up e * 2 ^ j / down e)

pub units-grid : {j : ℕ} {x : Float} → Grid j x → Units j x (in_units j x)
units-grid {j} {x} g = go x g.finite g.count g.size
  where
    go : (x : Float) → T (finite x) → (n : ℕ) → num x * 2 ^ j ≡ n * den x → Units j x (in_units j x)
    go nan F n h = absurd F
    go (inf s) F n h = absurd F
    go (fin s m e) F n h =
        units s m e (m * up e * 2 ^ j / down e) (h ∙ ap (λ (k : ℕ). k * down e) (sym (ap (λ (k : ℕ). k / down e) h ∙ mul-div_cancel n (down_pos e))))

pub units-fits : (f : Format) (x : Float) → T (fits f x) → T (finite x) → Units (low f) x (in_units (low f) x)
units-fits f x h F = units-grid (grid-fits f x h F)

-- a whole number is 2 ^ j times as many
pub units-whole : (j : ℕ) {x : Float} {z : ℤ} → Whole x z → Units j x (pos (2 ^ j) *ℤ z)
units-whole j (whole s m e k p) =
    subst (λ (z : ℤ). Units j (fin s m e) z) (sym (times-signed (2 ^ j) s k))
    (units s m e (2 ^ j * k) (ap (λ (n : ℕ). n * 2 ^ j) p ∙ mul_right_comm k (down e) (2 ^ j) ∙ ap (λ (n : ℕ). n * down e) (mul_comm k (2 ^ j))))

-- and a size in units is the size
pub upto-units : {j : ℕ} {x : Float} {z : ℤ} (n k : ℕ) → Units j x z → nat_abs z ≤ n * 2 ^ (k + j) → Upto n k x
upto-units {j} n k (units s m e i p) h =
    record {
      finite = tt;
      size = le_of_mul-le-mul_right
          (cut (m * up e) i (down e) (2 ^ k) (2 ^ j) p (subst (λ (w : ℕ). i ≤ n * w) (pow-add 2 k j) (le_trans (le_of_eq (sym (abs-signed s i))) h)))
          (pow_pos j);
    }
  where
    cut : (a i d w v : ℕ) → a * v ≡ i * d → i ≤ n * (w * v) → a * v ≤ n * w * d * v
    cut a i d w v p h = omega (arith, mul-le-mul_right d h)
