-- A map of 0..n-1 into itself that is one to one takes every value: a value left out would make room for one more. So every slot is some
-- step's, and no two steps share one (`slots-differ`): each is written exactly once.
-- Assumes nothing.
use Prim.Native.Nat.{ℕ, zero, suc, ◌<◌}
use mathlib.Core.Bool.{Bool, true, false}
use mathlib.Core.Logic.{◌⊎◌, inl, inr, ⊎_elim}
use mathlib.Core.Path.{◌≡◌, refl, sym, ap, ◌∙◌}
use native.Mathlib.Omega.{arith}
use borrow.Author.Tests.{eqb-true, eqb-false}
use lib.Dec.{eqb}
use Rattle.util.specs.Choose.{choose}
use Rattle.util.proofs.Choose.{chosen, not_chosen}
use Rattle.frame.specs.Air.{slot_of}
use Rattle.frame.proofs.Air.{slot-within, slots-differ}

-- a map of the first n numbers, one to one, with values below m
record Within (n m : ℕ) (f : ℕ → ℕ) : Type 0 where
  below : (i : ℕ) → i < n → f i < m
  differ : (i j : ℕ) → i < n → j < n → f i ≡ f j → i ≡ j

-- f, with w where g has the value v
instead : (ℕ → ℕ) → ℕ → ℕ → (ℕ → ℕ) → ℕ → ℕ
instead g v w f i = choose (eqb (g i) v) w (f i)

instead-cases : (g : ℕ → ℕ) (v w : ℕ) (f : ℕ → ℕ) (i : ℕ) → ((g i ≡ v) × (instead g v w f i ≡ w)) ⊎ ((g i ≡ v → ⊥) × (instead g v w f i ≡ f i))
unfolding instead
instead-cases g v w f i = by (eqb (g i) v) refl
  where
    by : (t : Bool) → eqb (g i) v ≡ t → ((g i ≡ v) × (choose (eqb (g i) v) w (f i) ≡ w)) ⊎ ((g i ≡ v → ⊥) × (choose (eqb (g i) v) w (f i) ≡ f i))
    by true e = inl (eqb-true (g i) v e, chosen w (f i) e)
    by false e = inr (eqb-false (g i) v e, not_chosen w (f i) e)

-- is one to one where g has the value v but once, and f is one to one elsewhere and has not the value w there
instead-within : (n m : ℕ) (g : ℕ → ℕ) (v w : ℕ) (f : ℕ → ℕ)
    → ((i : ℕ) → i < n → g i ≡ v → w < m)
    → ((i : ℕ) → i < n → (g i ≡ v → ⊥) → (f i < m) × (f i ≡ w → ⊥))
    → ((i j : ℕ) → i < n → j < n → g i ≡ v → g j ≡ v → i ≡ j)
    → ((i j : ℕ) → i < n → j < n → (g i ≡ v → ⊥) → (g j ≡ v → ⊥) → f i ≡ f j → i ≡ j)
    → Within n m (instead g v w f)
instead-within n m g v w f at rest once differ = record { below = below; differ = apart }
  where
    below : (i : ℕ) → i < n → instead g v w f i < m
    below i h =
        ⊎_elim (λ p. omega (arith, at i h p.0)) (λ p. omega (arith, (rest i h p.0).0)) (instead-cases g v w f i)

    apart : (i j : ℕ) → i < n → j < n → instead g v w f i ≡ instead g v w f j → i ≡ j
    apart i j hi hj e =
        ⊎_elim
        (λ p. ⊎_elim (λ q. once i j hi hj p.0 q.0) (λ q. absurd ((rest j hj q.0).1 (sym q.1 ∙ sym e ∙ p.1))) (instead-cases g v w f j))
        (λ p. ⊎_elim
        (λ q. absurd ((rest i hi p.0).1 (sym p.1 ∙ e ∙ q.1)))
        (λ q. differ i j hi hj p.0 q.0 (sym p.1 ∙ e ∙ q.1))
        (instead-cases g v w f j))
        (instead-cases g v w f i)

-- where the last argument's value takes the place of the greatest value, one argument and one value are gone
lower : (m : ℕ) (f : ℕ → ℕ) → Within (suc (suc m)) (suc m) f → Within (suc m) m (instead f m (f (suc m)) f)
lower m f w =
    instead-within (suc m) m f m (f (suc m)) f
    (λ i h e. let other : f (suc m) ≡ m → ⊥ = λ p. last i h (e ∙ sym p) in omega (arith, w.below (suc m) (omega arith)))
    (λ i h e. (omega (arith, w.below i (omega arith)), last i h))
    (λ i j hi hj p q. w.differ i j (omega arith) (omega arith) (p ∙ sym q))
    (λ i j hi hj p q e. w.differ i j (omega arith) (omega arith) e)
  where
    last : (i : ℕ) → i < suc m → f i ≡ f (suc m) → ⊥
    last i h e = omega (arith, w.differ i (suc m) (omega arith) (omega arith) e)

no_room : (m : ℕ) (f : ℕ → ℕ) → Within (suc m) m f → ⊥
no_room zero f w = omega (arith, w.below 0 (omega arith))
no_room (suc m) f w = no_room m (instead f m (f (suc m)) f) (lower m f w)

-- a value left out would be the value of one argument more
more : (n : ℕ) (f : ℕ → ℕ) (s : ℕ) → Within n n f → s < n → ((j : ℕ) → j < n → f j ≡ s → ⊥) → Within (suc n) n (instead (λ (i : ℕ). i) n s f)
more n f s w h out =
    instead-within (suc n) n (λ (i : ℕ). i) n s f
    (λ i l e. h)
    (λ i l e. (w.below i (omega arith), out i (omega arith)))
    (λ i j hi hj p q. p ∙ sym q)
    (λ i j hi hj p q e. w.differ i j (omega arith) (omega arith) e)

-- either some argument has the value, or none
abbrev Taken : ℕ → (ℕ → ℕ) → ℕ → Type 0
Taken n f s = (j : ℕ) × (j < n) × (f j ≡ s)

taken-or-not : (n : ℕ) (f : ℕ → ℕ) (s : ℕ) → Taken n f s ⊎ ((j : ℕ) → j < n → f j ≡ s → ⊥)
taken-or-not zero f s = inr (λ j h e. omega arith)
taken-or-not (suc n) f s =
    ⊎_elim
    (λ t. inl (t.0, omega arith, t.2))
    (λ out. by (eqb (f n) s) refl out)
    (taken-or-not n f s)
  where
    by : (t : Bool) → eqb (f n) s ≡ t → ((j : ℕ) → j < n → f j ≡ s → ⊥) → Taken (suc n) f s ⊎ ((j : ℕ) → j < suc n → f j ≡ s → ⊥)
    by true e out = inl (n, omega arith, eqb-true (f n) s e)
    by false e out =
        inr (λ j h p.
        let late : j < n → ⊥ = λ l. out j l p in
        let last : n ≡ j = omega arith in
        eqb-false (f n) s e (ap f last ∙ p))

onto : (n : ℕ) (f : ℕ → ℕ) → Within n n f → (s : ℕ) → s < n → Taken n f s
onto n f w s h = ⊎_elim (λ t. t) (λ out. absurd (no_room n _ (more n f s w h out))) (taken-or-not n f s)

-- every slot is the slot of some step
pub every-slot : (n s : ℕ) → s < n → (j : ℕ) × (j < n) × (slot_of n j ≡ s)
every-slot n = onto n (slot_of n) (record { below = slot-within n; differ = slots-differ n })
