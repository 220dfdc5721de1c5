-- Rules for floats in a range: from the ranges of the operands to that of the result, by the corners. The ends are
-- floats, so at literals they compute. Assumes nothing.
use mathlib.Core.Path.{◌≡◌, subst}
use mathlib.Core.Logic.{◌⊎◌, inl, inr}
use native.Mathlib.Omega.{arith}
use mathlib.Core.Bool.{Bool, true, false, not, ◌&&◌, cond}
use lib.Dec.{T}
use lib.Ieee.{Float, nan, inf, fin, Format, add, sub, mul, div, neg, lt, le, is_nan}
use lib.Ieee.Fits.{and_l, and_r}
use lib.Ieee.Scale.{finite}
use lib.Ieee.Positive.{positive, between}
use Rattle.ieee.specs.Whole.{plus_zero}
use Rattle.ieee.specs.Within.{Within, larger, clamp, inside, four, ok_add, ok_sub, ok_mul, ok_div}
use Rattle.ieee.proofs.Order.{cross→le, le_trans, le_refl, neg-le, lt→le, not-lt→le, not-nan}
use Rattle.ieee.proofs.Rounds.{add-mono, sub-mono, mul_mono, mul-anti, mul-swap, div_mono, div-anti, div-mono-below}

-- ---- tests taken apart
four-out : (a b c d : Bool) → T (four a b c d) → T a × T b × T c × T d
four-out true true true true t = (tt, tt, tt, tt)
four-out true true true false t = absurd t
four-out true true false d t = absurd t
four-out true false c d t = absurd t
four-out false b c d t = absurd t

-- ---- a value in a finite range is finite
pub within-finite : (l h x : Float) → T (finite l) → T (finite h) → Within l h x → T (finite x)
unfolding le
within-finite l h x p q w = go l h x p q w.from w.to
  where
    go : (l h x : Float) → T (finite l) → T (finite h) → T (le l x) → T (le x h) → T (finite x)
    go nan h x p q a b = absurd p
    go (inf s) h x p q a b = absurd p
    go (fin s m e) nan x p q a b = absurd q
    go (fin s m e) (inf t) x p q a b = absurd q
    go (fin s m e) (fin t n d) nan p q a b = absurd b
    go (fin s m e) (fin t n d) (inf true) p q a b = absurd a
    go (fin s m e) (fin t n d) (inf false) p q a b = absurd b
    go (fin s m e) (fin t n d) (fin u k g) p q a b = tt

-- ---- wider ends; a single value
pub widen : {a b x : Float} (l h : Float) → Within a b x → T (le l a && le b h) → Within l h x
widen {a} {b} {x} l h w t = record { from = le_trans l a x (and_l (le l a) (le b h) t) w.from; to = le_trans x b h w.to (and_r (le l a) (le b h) t) }

pub point : (k : Float) → T (le k k) → Within k k k
point k t = record { from = t; to = t }

-- ---- the other sign
pub neg-in : {l h x : Float} → Within l h x → Within (neg h) (neg l) (neg x)
neg-in {l} {h} {x} w = record { from = neg-le x h w.to; to = neg-le l x w.from }

-- ---- sums
pub add-in : {a b c d x y : Float} (f : Format) (l h : Float) → Within a b x → Within c d y → T (ok_add f a b c d l h) → Within l h (add f x y)
add-in {a} {b} {c} {d} {x} {y} f l h v w t =
    let fs = four-out (finite a) (finite b) (finite c) (finite d)
    (and_l (four (finite a) (finite b) (finite c) (finite d)) (le l (add f a c) && le (add f b d) h) t) in
    let es = and_r (four (finite a) (finite b) (finite c) (finite d)) (le l (add f a c) && le (add f b d) h) t in
    let X = within-finite a b x fs.0 fs.1 v in
    let Y = within-finite c d y fs.2 fs.3 w in
    record {
      from = le_trans l (add f a c) (add f x y) (and_l (le l (add f a c)) (le (add f b d) h) es) (add-mono f a x c y fs.0 X fs.2 Y v.from w.from);
      to = le_trans (add f x y) (add f b d) h (add-mono f x b y d X fs.1 Y fs.3 v.to w.to) (and_r (le l (add f a c)) (le (add f b d) h) es);
    }

pub sub_in : {a b c d x y : Float} (f : Format) (l h : Float) → Within a b x → Within c d y → T (ok_sub f a b c d l h) → Within l h (sub f x y)
sub_in {a} {b} {c} {d} {x} {y} f l h v w t =
    let fs = four-out (finite a) (finite b) (finite c) (finite d)
    (and_l (four (finite a) (finite b) (finite c) (finite d)) (le l (sub f a d) && le (sub f b c) h) t) in
    let es = and_r (four (finite a) (finite b) (finite c) (finite d)) (le l (sub f a d) && le (sub f b c) h) t in
    let X = within-finite a b x fs.0 fs.1 v in
    let Y = within-finite c d y fs.2 fs.3 w in
    record {
      from = le_trans l (sub f a d) (sub f x y) (and_l (le l (sub f a d)) (le (sub f b c) h) es) (sub-mono f a x d y fs.0 X fs.3 Y v.from w.to);
      to = le_trans (sub f x y) (sub f b c) h (sub-mono f x b y c X fs.1 Y fs.2 v.to w.from) (and_r (le l (sub f a d)) (le (sub f b c) h) es);
    }

-- ---- products and quotients: by the sign of the fixed operand, the result lies between those at the two ends
sign : (x : Float) → T (finite x) → T (le plus_zero x) ⊎ T (le x plus_zero)
sign nan p = absurd p
sign (inf s) p = absurd p
sign (fin false m e) p = inl (cross→le plus_zero (fin false m e) tt tt (omega arith))
sign (fin true m e) p = inr (cross→le (fin true m e) plus_zero tt tt (omega arith))

both : (l h z : Float) → T (inside l h z) → Within l h z
both l h z t = record { from = and_l (le l z) (le z h) t; to = and_r (le l z) (le z h) t }

hull : (l h p q r : Float) → Within l h p → Within l h q → T (le p r) → T (le r q) → Within l h r
hull l h p q r v w a b = record { from = le_trans l p r v.from a; to = le_trans r q h b w.to }

mul-vary : (f : Format) (a b x y l h : Float) → T (finite a) → T (finite b) → T (finite x) → T (finite y) → Within a b x → Within l h (mul f a y)
    → Within l h (mul f b y) → Within l h (mul f x y)
mul-vary f a b x y l h A B X Y w u v = elim (sign y Y) [
  | inl s ↦ hull l h (mul f a y) (mul f b y) (mul f x y) u v (mul_mono f a x y A X Y w.from s) (mul_mono f x b y X B Y w.to s)
  | inr s ↦ hull l h (mul f b y) (mul f a y) (mul f x y) v u (mul-anti f x b y X B Y w.to s) (mul-anti f a x y A X Y w.from s)
]

pub mul_in : {a b c d x y : Float} (f : Format) (l h : Float) → Within a b x → Within c d y → T (ok_mul f a b c d l h) → Within l h (mul f x y)
mul_in {a} {b} {c} {d} {x} {y} f l h v w t =
    let ends = four (finite a) (finite b) (finite c) (finite d) in
    let corners = four (inside l h (mul f c a)) (inside l h (mul f d a)) (inside l h (mul f c b)) (inside l h (mul f d b)) in
    let fs = four-out (finite a) (finite b) (finite c) (finite d) (and_l ends corners t) in
    let cs = four-out (inside l h (mul f c a)) (inside l h (mul f d a)) (inside l h (mul f c b)) (inside l h (mul f d b)) (and_r ends corners t) in
    let X = within-finite a b x fs.0 fs.1 v in
    let Y = within-finite c d y fs.2 fs.3 w in
    let at_a = mul-vary f c d y a l h fs.2 fs.3 Y fs.0 w (both l h (mul f c a) cs.0) (both l h (mul f d a) cs.1) in
    let at_b = mul-vary f c d y b l h fs.2 fs.3 Y fs.1 w (both l h (mul f c b) cs.2) (both l h (mul f d b) cs.3) in
    mul-vary f a b x y l h fs.0 fs.1 X Y v
    (subst (λ (z : Float). Within l h z) (mul-swap f y a Y fs.0) at_a) (subst (λ (z : Float). Within l h z) (mul-swap f y b Y fs.1) at_b)

div-vary : (f : Format) (x c d y l h : Float) → T (finite x) → T (positive c) → T (positive d) → T (positive y) → Within c d y
    → Within l h (div f x c) → Within l h (div f x d) → Within l h (div f x y)
div-vary f x c d y l h X C D Y w u v = elim (sign x X) [
  | inl s ↦ hull l h (div f x d) (div f x c) (div f x y) v u (div-anti f x y d X Y D w.to s) (div-anti f x c y X C Y w.from s)
  | inr s ↦ hull l h (div f x c) (div f x d) (div f x y) u v (div-mono-below f x c y X C Y w.from s) (div-mono-below f x y d X Y D w.to s)
]

pub div-in : {a b c d x y : Float} (f : Format) (l h : Float) → Within a b x → Within c d y → T (ok_div f a b c d l h) → Within l h (div f x y)
div-in {a} {b} {c} {d} {x} {y} f l h v w t =
    let ends = four (finite a) (finite b) (positive c) (positive d) in
    let corners = four (inside l h (div f a c)) (inside l h (div f a d)) (inside l h (div f b c)) (inside l h (div f b d)) in
    let fs = four-out (finite a) (finite b) (positive c) (positive d) (and_l ends corners t) in
    let cs = four-out (inside l h (div f a c)) (inside l h (div f a d)) (inside l h (div f b c)) (inside l h (div f b d)) (and_r ends corners t) in
    let X = within-finite a b x fs.0 fs.1 v in
    let Y = between c y d fs.2 fs.3 w.from w.to in
    hull l h (div f a y) (div f b y) (div f x y)
    (div-vary f a c d y l h fs.0 fs.2 fs.3 Y w (both l h (div f a c) cs.0) (both l h (div f a d) cs.1))
    (div-vary f b c d y l h fs.1 fs.2 fs.3 Y w (both l h (div f b c) cs.2) (both l h (div f b d) cs.3))
    (div_mono f a x y fs.0 X Y v.from) (div_mono f x b y X fs.1 Y v.to)

-- ---- the larger of two: one of them, and above both
pub larger-one : (P : Float → Type 0) (x y : Float) → P x → P y → P (larger x y)
larger-one P x y p q = go (lt x y)
  where
    go : (b : Bool) → P (cond b y x)
    go true = q
    go false = p

pub larger-above : (x y : Float) → T (not (is_nan x)) → T (not (is_nan y)) → T (le x (larger x y)) × T (le y (larger x y))
larger-above x y p q = go (lt x y) (lt→le x y) (not-lt→le x y p q)
  where
    go : (b : Bool) → (T b → T (le x y)) → (T (not b) → T (le y x)) → T (le x (cond b y x)) × T (le y (cond b y x))
    go true f g = (f tt, le_refl y q)
    go false f g = (le_refl x p, g tt)

-- ---- held between two ends: any value that is no NaN, an infinite one too
pub clamp-in : (l h x : Float) → T (le l h) → T (not (is_nan x)) → Within l h (clamp l h x)
clamp-in l h x o p = go (lt x l) (lt h x) (not-lt→le x l p ends.0) (not-lt→le h x ends.1 p)
  where
    ends : T (not (is_nan l)) × T (not (is_nan h))
    ends = not-nan l h o

    go : (b c : Bool) → (T (not b) → T (le l x)) → (T (not c) → T (le x h)) → Within l h (cond b l (cond c h x))
    go true c f g = record { from = le_refl l ends.0; to = o }
    go false true f g = record { from = o; to = le_refl h ends.1 }
    go false false f g = record { from = f tt; to = g tt }

-- each way of its code
pub clamp-low : (l h x : Float) → lt x l ≡ true → clamp l h x ≡ l
clamp-low l h x e = rw e

pub clamp-high : (l h x : Float) → lt x l ≡ false → lt h x ≡ true → clamp l h x ≡ h
clamp-high l h x e g = rw (e, g)

pub clamp-mid : (l h x : Float) → lt x l ≡ false → lt h x ≡ false → clamp l h x ≡ x
clamp-mid l h x e g = rw (e, g)
