-- The whole numbers are a `Group`, and every trellis over them is `Ranked`: sums keep their order, since b is at least a exactly where it is a
-- and some more. Assumes nothing.
use Prim.Native.Nat.{ℕ, zero, suc, ◌+◌, ◌-◌, ◌≤◌, ◌<◌}
use mathlib.Core.Path.{◌≡◌, refl, sym, ap, ◌∙◌, subst, subst₂}
use mathlib.Core.Bool.{Bool, true, false, not, cond}
use native.Mathlib.Nat.{le_trans, le_of_lt}
use native.Mathlib.Omega.{arith}
use lib.Dec.{T, ltb, leb→le, le→leb, ltb→lt, nltb→le}
use lib.IntN.{ℤ, pos, negsuc, neg_ℤ, nat_abs, suc_ℤ, sub_ℕ, ◌+ℤ◌, ◌-ℤ◌, +ℤ_assoc, +ℤ_comm, +ℤ_idr, +ℤ-suc_ℤ, +ℤ-neg_ℤ_cancel}
use lib.Signed.{le_z, lt_z, ◌≤ℤ◌, lt_z_no, clash_ℤ, ≤ℤ_refl}
use Rattle.ieee.proofs.Integers.{abs-sub}
use Rattle.trellis.specs.Numbers.{whole}
use Rattle.trellis.proofs.Best.{Ranked}
use Rattle.trellis.proofs.Handed.{Group}

trans' : (a b c : ℤ) → T (le_z a b) → T (le_z b c) → T (le_z a c)
trans' (pos a) (pos b) (pos c) h k = le→leb a c (le_trans (leb→le a b h) (leb→le b c k))
trans' (pos a) (pos b) (negsuc c) h k = k
trans' (pos a) (negsuc b) c h k = absurd h
trans' (negsuc a) (pos b) (pos c) h k = tt
trans' (negsuc a) (pos b) (negsuc c) h k = absurd k
trans' (negsuc a) (negsuc b) (pos c) h k = tt
trans' (negsuc a) (negsuc b) (negsuc c) h k = le→leb c a (le_trans (leb→le c b k) (leb→le b a h))

pub ≤ℤ-trans : {a b c : ℤ} → a ≤ℤ b → b ≤ℤ c → a ≤ℤ c
≤ℤ-trans {a} {b} {c} h k = record { le = trans' a b c h.le k.le }

less' : (a b : ℤ) → T (lt_z a b) → T (le_z a b)
less' (pos a) (pos b) h = le→leb a b (le_of_lt (ltb→lt a b h))
less' (pos a) (negsuc b) h = h
less' (negsuc a) (pos b) h = tt
less' (negsuc a) (negsuc b) h = le→leb b a (le_of_lt (ltb→lt b a h))

<ℤ-≤ℤ : {a b : ℤ} → T (lt_z a b) → a ≤ℤ b
<ℤ-≤ℤ {a} {b} h = record { le = less' a b h }

-- ---- a sum keeps the order

-- k − (m + 1), on either side of 0
sub-below : (k m : ℕ) → k ≤ m → sub_ℕ k (suc m) ≡ negsuc (m - k)
sub-below k m h = go (ltb k (suc m)) (λ t. nltb→le k (suc m) t)
  where
    go : (t : Bool) → (T (not t) → suc m ≤ k) → cond t (negsuc (suc m - suc k)) (pos (k - suc m)) ≡ negsuc (m - k)
    go true f = ap negsuc (omega arith)
    go false f = let g : suc m ≤ k = f tt in absurd (omega arith)

sub-above : (k m : ℕ) → m < k → sub_ℕ k (suc m) ≡ pos (k - suc m)
sub-above k m h = go (ltb k (suc m)) (λ t. ltb→lt k (suc m) t)
  where
    go : (t : Bool) → (T t → k < suc m) → cond t (negsuc (suc m - suc k)) (pos (k - suc m)) ≡ pos (k - suc m)
    go true f = let g : k < suc m = f tt in absurd (omega arith)
    go false f = refl

gap : (a b : ℤ) → T (le_z a b) → (k : ℕ) × (a +ℤ pos k ≡ b)
gap (pos a) (pos b) h = (b - a, ap pos (omega (arith, leb→le a b h)))
gap (pos a) (negsuc b) h = absurd h
gap (negsuc a) (pos b) h = (b + suc a, sub-above (b + suc a) a (omega arith) ∙ ap pos (omega arith))
gap (negsuc a) (negsuc b) h = (a - b, sub-below (a - b) a (omega arith) ∙ ap negsuc (omega (arith, leb→le b a h)))

le-suc : (a : ℤ) → T (le_z a (suc_ℤ a))
le-suc (pos a) = le→leb a (suc a) (omega arith)
le-suc (negsuc zero) = tt
le-suc (negsuc (suc a)) = le→leb a (suc a) (omega arith)

le-more : (a : ℤ) (k : ℕ) → a ≤ℤ (a +ℤ pos k)
le-more a zero = rw (+ℤ_idr a) (≤ℤ_refl a)
le-more a (suc k) = rw (+ℤ-suc_ℤ a (pos k)) (≤ℤ-trans (le-more a k) (record { le = le-suc (a +ℤ pos k) }))

pub ≤ℤ-add : {a b : ℤ} (c : ℤ) → a ≤ℤ b → (a +ℤ c) ≤ℤ (b +ℤ c)
≤ℤ-add {a} {b} c h =
    let (k, e) = gap a b h.le in
    subst (λ (x : ℤ). (a +ℤ c) ≤ℤ x)
    (+ℤ_assoc a c (pos k) ∙ ap (λ (x : ℤ). a +ℤ x) (+ℤ_comm c (pos k)) ∙ sym (+ℤ_assoc a (pos k) c) ∙ ap (λ (x : ℤ). x +ℤ c) e)
    (le-more (a +ℤ c) k)

-- from two sums, what is added being at most m and n large
≤ℤ-size : (z : ℤ) (n : ℕ) → nat_abs z ≤ n → z ≤ℤ pos n
≤ℤ-size (pos a) n h = record { le = le→leb a n h }
≤ℤ-size (negsuc a) n h = record { le = tt }

pub ≤ℤ-apart : (a b c d : ℤ) (m n : ℕ) → (a +ℤ c) ≤ℤ (b +ℤ d) → nat_abs c ≤ m → nat_abs d ≤ n → a ≤ℤ (b +ℤ pos (m + n))
≤ℤ-apart a b c d m n h k l =
    let e : a ≤ℤ (b +ℤ (d -ℤ c)) = subst₂ ◌≤ℤ◌ (+ℤ-neg_ℤ_cancel a c) (+ℤ_assoc b d (neg_ℤ c)) (≤ℤ-add (neg_ℤ c) h) in
    let f : (d -ℤ c) ≤ℤ pos (m + n) = ≤ℤ-size (d -ℤ c) (m + n) (le_trans (abs-sub d c) (omega arith)) in
    ≤ℤ-trans e (subst₂ ◌≤ℤ◌ (+ℤ_comm (d -ℤ c) b) (+ℤ_comm (pos (m + n)) b) (≤ℤ-add b f))

-- taking away what was added
+ℤ-take : (a b : ℤ) → (a +ℤ b) -ℤ a ≡ b
+ℤ-take a b = ap (λ (x : ℤ). x -ℤ a) (+ℤ_comm a b) ∙ +ℤ-neg_ℤ_cancel b a

-- what is added to a and comes to at most b is at most what b has above a
pub ≤ℤ-less : (a b x : ℤ) → (a +ℤ x) ≤ℤ b → x ≤ℤ (b -ℤ a)
≤ℤ-less a b x h = subst (λ (z : ℤ). z ≤ℤ (b -ℤ a)) (+ℤ-take a x) (≤ℤ-add (neg_ℤ a) h)

pub group : Group whole
group = record { add-nil = +ℤ_idr; add_assoc = +ℤ_assoc; add-sub = +ℤ-take }

-- any whole number can be a score
pub ranked : {N n : ℕ} {earn : ℕ → ℕ → ℤ} → Ranked (record { scale = whole; states = N; steps = n; earn = earn }) ◌≤ℤ◌ (λ j a. Unit {0})
ranked =
    record {
      le_refl = λ {j} {a} o. ≤ℤ_refl a;
      le_trans = ≤ℤ-trans;
      gt-le = <ℤ-≤ℤ;
      not-gt-le = λ o p t. lt_z_no t;
      gt_not_le = λ t h. clash_ℤ (record { lt = t }) h;
      nil-ok = tt;
      step_ok = λ h l o. tt;
      step-le = λ {j} {r} h l o p k. ≤ℤ-add _ k;
      sub-nil = λ {j} {a} o. +ℤ_idr a;
    }
