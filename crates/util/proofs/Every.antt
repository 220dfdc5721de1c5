-- A test of every place below n: one place further, and what it says of each. Assumes nothing.
use Rattle.std.proofs.Common.{◌≡◌, ℕ, zero, suc, ◌+◌, ◌<◌, Bool, true, false, ◌&&◌, sym, refl, ap, ◌∙◌, ⊎_elim, true≢false, not-suc-le-zero, eq-or-lt_of_le, add-one, arith}
use mathlib.Core.Bool.{and-false, and-true}
use Rattle.util.specs.Every.{every}

pub every-next : (f : ℕ → Bool) (n : ℕ) → every (n + 1) f ≡ every n f && f n
unfolding every
every-next f n = ap (λ (k : ℕ). every k f) (add-one n)

pub every-same : (f g : ℕ → Bool) (n : ℕ) → ((i : ℕ) → i < n → f i ≡ g i) → every n f ≡ every n g
unfolding every
every-same f g zero e = refl
every-same f g (suc n) e = λ i. every-same f g n (λ k h. e k (omega arith)) i && e n (omega arith) i

pub every-all : (f : ℕ → Bool) (n : ℕ) → ((i : ℕ) → i < n → f i ≡ true) → every n f ≡ true
unfolding every
every-all f zero h = refl
every-all f (suc n) h = λ i. every-all f n (λ k l. h k (omega arith)) i && h n (omega arith) i

pub every_true : (f : ℕ → Bool) (n : ℕ) → every n f ≡ true → f n ≡ true → every (n + 1) f ≡ true
every_true f n e h = every-next f n ∙ (λ i. e i && h i)

every-false : (f : ℕ → Bool) (n j : ℕ) → j < n → f j ≡ false → every n f ≡ false
unfolding every
every-false f zero j l e = absurd (not-suc-le-zero l)
every-false f (suc n) j l e =
    ⊎_elim (λ h. ap (λ (t : Bool). every n f && t) (ap f (sym h) ∙ e) ∙ and-false (every n f)) (λ h. ap (λ (t : Bool). t && f n) (every-false f n j h e))
    (eq-or-lt_of_le {n = j} {m = n} (omega arith))

pub every-at : (f : ℕ → Bool) (n j : ℕ) → j < n → every n f ≡ true → f j ≡ true
every-at f n j l e = by (f j) refl
  where
    by : (t : Bool) → f j ≡ t → f j ≡ true
    by true p = p
    by false p = absurd (true≢false (sym e ∙ every-false f n j l p))

-- where it does not hold at every place, it fails at one
pub every-fails : (f : ℕ → Bool) (n : ℕ) → every n f ≡ false → (i : ℕ) × (i < n) × (f i ≡ false)
unfolding every
every-fails f zero e = absurd (true≢false e)
every-fails f (suc n) e = by (f n) refl (λ h. every-fails f n h)
  where
    by : (t : Bool) → f n ≡ t → (every n f ≡ false → (i : ℕ) × (i < n) × (f i ≡ false)) → (i : ℕ) × (i < suc n) × (f i ≡ false)
    by false q rest = (n, omega arith, q)
    by true q rest =
        let below = rest (sym (and-true (every n f)) ∙ ap (λ (t : Bool). every n f && t) (sym q) ∙ e) in
        (below.0, omega (arith, below.1), below.2)
