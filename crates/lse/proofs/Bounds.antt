-- Bounds of exp, ln_1p and `lse`: in range, so no NaN. Each float step is one interval rule of `ieee` with its ends written out.
-- Assumes nothing.
use Prim.Native.Nat.{ℕ, suc, ◌+◌, ◌*◌, ◌-◌, ◌^◌, ◌≤◌}
use mathlib.Core.Bool.{Bool, true, false, not}
use mathlib.Core.Path.{◌≡◌, refl, sym, ap, subst, ◌∙◌}
use native.Mathlib.Omega.{arith}
use lib.Dec.{T, le→leb, lit≤}
use lib.IntN.{pos, negsuc}
use lib.Ieee.{Float, nan, inf, fin, binary32, add, sub, mul, div, lt, le, eq, is_nan}
use lib.Ieee.Scale.{finite}
use Rattle.util.specs.Choose.{choose}
use Rattle.ieee.specs.Whole.{Whole, whole, run}
use Rattle.ieee.specs.Within.{Within}
use Rattle.ieee.proofs.Folds.{run-keeps}
use Rattle.ieee.proofs.Values.{of_int-whole, add-of_int, of_int-le}
use Rattle.ieee.proofs.Sums.{whole-finite}
use Rattle.ieee.proofs.Rounds.{add-mono, sub-nonpos}
use Rattle.ieee.proofs.Order.{finite-not-nan, le_trans, not-lt→le, lt→le}
use Rattle.ieee.proofs.Intervals.{within-finite, point, add-in, sub_in, mul_in, div-in}
use Rattle.lse.specs.Lse.{float32, negative, exp_step, squared, exp_of, ln_step, ln_from, ln1p_of, minus_infinity, joined, lse_of}

-- ---- the divisors
whole_le : (j k : ℕ) → j ≤ k → k ≤ 2 ^ 24 → T (le (float32 j) (float32 k))
unfolding float32
whole_le j k h m = subst T (sym (of_int-le binary32 (pos j) (pos k) (omega arith) m)) (le→leb j k h)

divisor : (k : ℕ) → 1 ≤ k → k ≤ 17 → Within (float32 1) (float32 17) (float32 k)
divisor k l h = record { from = whole_le 1 k l (omega arith); to = whole_le k 17 h (lit≤ tt) }

-- ---- exp
exp-step : (y p k : Float) → Within (negative 1) (float32 0) y → Within (float32 0) (float32 1) p → Within (float32 1) (float32 17) k
    → Within (float32 0) (float32 1) (exp_step y p k)
unfolding exp_step float32 negative le add mul div
exp-step y p k Y P K =
    let a : Within (negative 1) (float32 0) (mul binary32 y p) = mul_in binary32 (negative 1) (float32 0) Y P tt in
    let b : Within (negative 1) (float32 0) (div binary32 (mul binary32 y p) k) = div-in binary32 (negative 1) (float32 0) a K tt in
    add-in binary32 (float32 0) (float32 1) (point (float32 1) tt) b tt

squared-in : (p : Float) → Within (float32 0) (float32 1) p → Within (float32 0) (float32 1) (squared p)
unfolding squared float32 le mul
squared-in p P = mul_in binary32 (float32 0) (float32 1) P P tt

one_in : Within (float32 0) (float32 1) (float32 1)
unfolding float32 le
one_in = record { from = tt; to = tt }

sixteenth : (t : Float) → Within (negative 16) (float32 0) t → Within (negative 1) (float32 0) (div binary32 t (float32 16))
unfolding float32 negative le div
sixteenth t h = div-in binary32 (negative 1) (float32 0) h (point (float32 16) tt) tt

exp-run : (y : Float) → Within (negative 1) (float32 0) y → Within (float32 0) (float32 1) (run (exp_step y) (float32 1) (λ i. float32 (10 - i)) 10)
exp-run y Y =
    run-keeps (λ (p : Float). Within (float32 0) (float32 1) p) (exp_step y) (float32 1) (λ i. float32 (10 - i)) 10 one_in
    (λ i p h P. exp-step y p (float32 (10 - i)) Y P (divisor (10 - i) (omega arith) (omega arith)))

sixteen : T (not (is_nan (negative 16))) × Within (float32 0) (float32 1) (float32 0)
unfolding float32 negative is_nan le
sixteen = (tt, record { from = tt; to = tt })

pub exp_in : (t : Float) → T (finite t) → T (le t (float32 0)) → Within (float32 0) (float32 1) (exp_of t)
unfolding exp_of
exp_in t F h = go (lt t (negative 16)) (not-lt→le t (negative 16) (finite-not-nan t F) sixteen.0)
  where
    e : Float
    e = run (exp_step (div binary32 t (float32 16))) (float32 1) (λ i. float32 (10 - i)) 10

    go : (b : Bool) → (T (not b) → T (le (negative 16) t))
        → Within (float32 0) (float32 1) (choose b (float32 0) (squared (squared (squared (squared e)))))
    go true k = sixteen.1
    go false k =
        squared-in (squared (squared (squared e))) (squared-in (squared (squared e)) (squared-in (squared e)
        (squared-in e (exp-run (div binary32 t (float32 16)) (sixteenth t (record { from = k tt; to = h }))))))

-- ---- ln_1p
abbrev half : Float
half = fin false 1 (negsuc 0)

abbrev quarter : Float
quarter = fin false 1 (negsuc 1)

ln-step : (q r k : Float) → Within (float32 0) quarter q → Within (float32 0) (float32 2) r → Within (float32 1) (float32 17) k
    → Within (float32 0) (float32 2) (ln_step q r k)
unfolding ln_step float32 le add mul div
ln-step q r k Q R K =
    let a : Within (float32 0) (float32 1) (div binary32 (float32 1) k) = div-in binary32 (float32 0) (float32 1) (point (float32 1) tt) K tt in
    let b : Within (float32 0) half (mul binary32 q r) = mul_in binary32 (float32 0) half Q R tt in
    add-in binary32 (float32 0) (float32 2) a b tt

first-in : Within (float32 0) (float32 2) (div binary32 (float32 1) (float32 17))
unfolding float32 le div
first-in = record { from = tt; to = tt }

ln-run : (q : Float) → Within (float32 0) quarter q
    → Within (float32 0) (float32 2) (run (ln_step q) (div binary32 (float32 1) (float32 17)) (λ i. float32 (2 * (7 - i) + 1)) 8)
ln-run q Q =
    run-keeps (λ (r : Float). Within (float32 0) (float32 2) r) (ln_step q) (div binary32 (float32 1) (float32 17)) (λ i. float32 (2 * (7 - i) + 1)) 8 first-in
    (λ i r h R. ln-step q r (float32 (2 * (7 - i) + 1)) Q R (divisor (2 * (7 - i) + 1) (omega arith) (omega arith)))

ln-from : (s : Float) → Within (float32 0) half s → Within (float32 0) (float32 2) (ln_from s)
unfolding ln_from float32 le mul
ln-from s S =
    let Q : Within (float32 0) quarter (mul binary32 s s) = mul_in binary32 (float32 0) quarter S S tt in
    let D : Within (float32 0) (float32 1) (mul binary32 (float32 2) s) = mul_in binary32 (float32 0) (float32 1) (point (float32 2) tt) S tt in
    mul_in binary32 (float32 0) (float32 2) D (ln-run (mul binary32 s s) Q) tt

pub ln1p-in : (u : Float) → Within (float32 0) (float32 1) u → Within (float32 0) (float32 2) (ln1p_of u)
unfolding ln1p_of float32 le add div
ln1p-in u U =
    let A : Within (float32 2) (float32 3) (add binary32 (float32 2) u) = add-in binary32 (float32 2) (float32 3) (point (float32 2) tt) U tt in
    ln-from (div binary32 u (add binary32 (float32 2) u)) (div-in binary32 (float32 0) half U A tt)

-- ---- the range of a log-sum: each value adds at most 2 to the upper end
unfoldable pub low_end : Float
unfolding negative
low_end = negative 5000000

unfoldable pub high_end : ℕ → Float
unfolding float32
high_end i = float32 (5000000 + 2 * i)

high-finite : (i : ℕ) → i ≤ 1000 → T (finite (high_end i))
unfolding high_end
high-finite i h = whole-finite (of_int-whole binary32 (pos (5000000 + 2 * i)) (omega arith))

high-mono : (i j : ℕ) → i ≤ j → j ≤ 1000 → T (le (high_end i) (high_end j))
unfolding high_end
high-mono i j h k = whole_le (5000000 + 2 * i) (5000000 + 2 * j) (omega arith) (omega arith)

two-whole : Whole (float32 2) (pos 2)
unfolding float32
two-whole = whole false 1 (pos 1) 2 refl

high-step : (i : ℕ) → i ≤ 999 → add binary32 (high_end i) (float32 2) ≡ high_end (suc i)
unfolding high_end
high-step i h = add-of_int binary32 (pos (5000000 + 2 * i)) (omega arith) two-whole (omega arith) ∙ ap float32 (next i)
  where
    next : (i : ℕ) → 5000000 + 2 * i + 2 ≡ 5000000 + 2 * suc i
    next i = omega arith

pub higher : (i j : ℕ) (x : Float) → i ≤ j → j ≤ 1000 → Within low_end (high_end i) x → Within low_end (high_end j) x
higher i j x h k w = record { from = w.from; to = le_trans x (high_end i) (high_end j) w.to (high-mono i j h k) }

-- all of it lies within 6,000,000
pub wide : (i : ℕ) (x : Float) → i ≤ 1000 → Within low_end (high_end i) x → Within (negative 6000000) (float32 6000000) x
unfolding high_end float32 negative low_end le
wide i x h w =
    record {
      from = le_trans (negative 6000000) low_end x tt w.from;
      to = le_trans x (high_end i) (float32 6000000) w.to (whole_le (5000000 + 2 * i) 6000000 (omega arith) (lit≤ tt));
    }

pub wide-finite : (x : Float) → Within (negative 6000000) (float32 6000000) x → T (finite x)
unfolding float32 negative
wide-finite x w = within-finite (negative 6000000) (float32 6000000) x tt tt w

pub gap-finite : (x y : Float) → Within (negative 6000000) (float32 6000000) x → Within (negative 6000000) (float32 6000000) y
    → T (finite (sub binary32 x y))
unfolding float32 negative le sub
gap-finite x y v w =
    within-finite (negative 12000000) (float32 12000000) (sub binary32 x y) tt tt (sub_in binary32 (negative 12000000) (float32 12000000) v w tt)

pub gap-nonpos : (lo hi : Float) → T (finite lo) → T (finite hi) → T (le lo hi) → T (le (sub binary32 lo hi) (float32 0))
unfolding float32
gap-nonpos lo hi p q h = sub-nonpos binary32 lo hi p q h

-- ---- `lse` of two finite values
low-stays : T (le low_end (add binary32 low_end (float32 0))) × T (finite low_end) × T (finite (float32 0)) × T (finite (float32 2))
unfolding low_end float32 negative le add
low-stays = (tt, tt, tt, tt)

joined_in : (i : ℕ) (hi lo : Float) → i ≤ 999 → Within low_end (high_end i) hi → Within low_end (high_end i) lo → T (le lo hi)
    → Within low_end (high_end (suc i)) (joined hi lo)
unfolding joined
joined_in i hi lo h v w o =
    let small : i ≤ 1000 = omega arith in
    let hi-wide = wide i hi small v in
    let lo-wide = wide i lo small w in
    let H = wide-finite hi hi-wide in
    let L = ln1p-in (exp_of (sub binary32 lo hi))
    (exp_in (sub binary32 lo hi) (gap-finite lo hi lo-wide hi-wide) (gap-nonpos lo hi (wide-finite lo lo-wide) H o)) in
    let l = ln1p_of (exp_of (sub binary32 lo hi)) in
    let F = within-finite (float32 0) (float32 2) l low-stays.2 low-stays.3 L in
    record {
      from = le_trans low_end (add binary32 low_end (float32 0)) (add binary32 hi l) low-stays.0
          (add-mono binary32 low_end hi (float32 0) l low-stays.1 H low-stays.2 F v.from L.from);
      to = subst (λ (z : Float). T (le (add binary32 hi l) z)) (high-step i h)
          (add-mono binary32 hi (high_end i) l (float32 2) H (high-finite i small) F low-stays.3 v.to L.to);
    }

lse-is : (a b : Float) → T (finite a) → T (finite b) → lse_of a b ≡ choose (lt b a) (joined a b) (joined b a)
unfolding lse_of eq
lse-is nan b p q = absurd p
lse-is (inf s) b p q = absurd p
lse-is (fin s m e) nan p q = absurd q
lse-is (fin s m e) (inf t) p q = absurd q
lse-is (fin s m e) (fin t n d) p q = refl

pub lse-in : (i : ℕ) (a b : Float) → i ≤ 999 → Within low_end (high_end i) a → Within low_end (high_end i) b → Within low_end (high_end (suc i)) (lse_of a b)
lse-in i a b h v w =
    let small : i ≤ 1000 = omega arith in
    let A = wide-finite a (wide i a small v) in
    let B = wide-finite b (wide i b small w) in
    subst (λ (z : Float). Within low_end (high_end (suc i)) z) (sym (lse-is a b A B))
    (go (lt b a) (lt→le b a) (not-lt→le b a (finite-not-nan b B) (finite-not-nan a A)))
  where
    go : (c : Bool) → (T c → T (le b a)) → (T (not c) → T (le a b)) → Within low_end (high_end (suc i)) (choose c (joined a b) (joined b a))
    go true f g = joined_in i a b h v w (f tt)
    go false f g = joined_in i b a h w v (g tt)

pub lse-left : (b : Float) → lse_of minus_infinity b ≡ b
unfolding lse_of eq
lse-left b = refl
