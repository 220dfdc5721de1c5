-- Blocks whose fields lie in two lists: their count, block i by fields i, the answer over them, and the lists again. Assumes nothing.
use Prim.Native.Nat.{ℕ, zero, suc, ◌<◌, min}
use mathlib.Core.Bool.{Bool}
use mathlib.Core.List.{List, [], ◌∷◌, map}
use mathlib.Core.Path.{◌≡◌, refl, sym, ap, ◌∙◌, subst}
use native.Mathlib.Nat.{not-suc-le-zero, lt_of_lt_of_le, min-le_left, min-le_right, suc-min-suc, zero-min, min-zero}
use native.Mathlib.Omega.{arith}
use borrow.Author.Tests.{eq-eqb, ne_eqb}
use lib.Dec.{ltb}
use lib.Ieee.{Float, nan}
use lib.ListN.{length, get_or, set}
use Rattle.util.specs.Choose.{choose}
use Rattle.util.specs.Refusal.{Outcome, refused}
use Rattle.blocks.specs.Blocks.{nowhere}
use Rattle.blocks.specs.Lists.{blocks_of, places_of, timings_of, over_lists}

pub blocks-length : (ps : List ℕ) (ts : List Float) → length ts ≡ length ps → length (blocks_of ps ts) ≡ length ps
unfolding blocks_of
blocks-length [] ts e = refl
blocks-length (p ∷ ps) [] e = absurd (omega (arith, e))
blocks-length (p ∷ ps) (t ∷ ts) e = ap suc (blocks-length ps ts (omega (arith, e)))

-- where one list is longer, its rest makes no block
pub count-is : (ps : List ℕ) (ts : List Float) → length (blocks_of ps ts) ≡ min (length ps) (length ts)
unfolding blocks_of
count-is [] ts = sym (zero-min (length ts))
count-is (p ∷ ps) [] = sym (min-zero (length (p ∷ ps)))
count-is (p ∷ ps) (t ∷ ts) = ap suc (count-is ps ts) ∙ sym (suc-min-suc (length ps) (length ts))

-- a block's place lies in both
pub in_both : (ps : List ℕ) (ts : List Float) (i : ℕ) → i < length (blocks_of ps ts) → (i < length ps) × (i < length ts)
in_both ps ts i h =
    let few : i < min (length ps) (length ts) = subst (λ (n : ℕ). i < n) (count-is ps ts) h in
    (lt_of_lt_of_le few (min-le_left (length ps) (length ts)), lt_of_lt_of_le few (min-le_right (length ps) (length ts)))

pub block_at : (ps : List ℕ) (ts : List Float) (i : ℕ) → i < length ps → i < length ts
    → get_or (blocks_of ps ts) i nowhere ≡ record { place2 = get_or ps i 0; timing = get_or ts i nan }
unfolding blocks_of
block_at [] ts i h l = absurd (not-suc-le-zero h)
block_at (p ∷ ps) [] i h l = absurd (not-suc-le-zero l)
block_at (p ∷ ps) (t ∷ ts) zero h l = refl
block_at (p ∷ ps) (t ∷ ts) (suc i) h l = block_at ps ts i (omega (arith, h)) (omega (arith, l))

pub two-lengths : {A : Type 0} (mode : ℕ) (ps : List ℕ) (ts : List Float) (o : Outcome A) (k : ℕ) → (length ts ≡ length ps → ⊥)
    → k ≡ choose (ltb 1 mode) 1 4 → refused k ≡ over_lists mode ps ts o
two-lengths mode ps ts o k other e = ap refused e
    ∙ sym (ap (λ (t : Bool). choose t o (refused (choose (ltb 1 mode) 1 4))) (ne_eqb (length ps) (length ts) (λ same. other (sym same))))

pub one-length : {A : Type 0} (mode : ℕ) (ps : List ℕ) (ts : List Float) (o : Outcome A) → length ts ≡ length ps → o ≡ over_lists mode ps ts o
one-length mode ps ts o e = sym (ap (λ (t : Bool). choose t o (refused (choose (ltb 1 mode) 1 4))) (eq-eqb (length ps) (length ts) (sym e)))

-- ---- the two lists again
pub places-back : (ps : List ℕ) (ts : List Float) → length ts ≡ length ps → places_of (blocks_of ps ts) ≡ ps
unfolding blocks_of
places-back [] ts e = refl
places-back (p ∷ ps) [] e = absurd (omega (arith, e))
places-back (p ∷ ps) (t ∷ ts) e = ap (λ (l : List ℕ). p ∷ l) (places-back ps ts (omega (arith, e)))

pub timings-back : (ps : List ℕ) (ts : List Float) → length ts ≡ length ps → timings_of (blocks_of ps ts) ≡ ts
unfolding blocks_of
timings-back [] [] e = refl
timings-back [] (t ∷ ts) e = absurd (omega (arith, e))
timings-back (p ∷ ps) [] e = absurd (omega (arith, e))
timings-back (p ∷ ps) (t ∷ ts) e = ap (λ (l : List Float). t ∷ l) (timings-back ps ts (omega (arith, e)))

-- a field of a list in which one place is set
pub map-set : {A B : Type 0} (f : A → B) (l : List A) (i : ℕ) (y : A) → map f (set l i y) ≡ set (map f l) i (f y)
map-set f [] i y = refl
map-set f (x ∷ xs) zero y = refl
map-set {B = B} f (x ∷ xs) (suc i) y = ap (λ (zs : List B). f x ∷ zs) (map-set f xs i y)
