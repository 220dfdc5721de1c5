-- A list in which no number stands twice, as a test that computes, and what it says of two places. Assumes nothing.
use Rattle.std.proofs.Common.{◌≡◌, ℕ, zero, suc, ◌<◌, Bool, true, not, ◌&&◌, eqb, List, [], ◌∷◌, length, get_or, arith}
use mathlib.Core.Bool.{and-eq-true_iff}
use borrow.Author.Tests.{eqb-false, not-true}
use Rattle.util.specs.Some.{some_of}
use Rattle.util.proofs.Some.{none_of}

unfoldable pub distinct : List ℕ → Bool
distinct [] = true
distinct (l ∷ ls) = not (some_of (eqb l) ls) && distinct ls

pub distinct-both : (l : ℕ) (ls : List ℕ) → distinct (l ∷ ls) ≡ true → (not (some_of (eqb l) ls) ≡ true) × (distinct ls ≡ true)
unfolding distinct
distinct-both l ls d = (and-eq-true_iff (not (some_of (eqb l) ls)) (distinct ls)).0 d

pub no-two : (ls : List ℕ) (i j : ℕ) → distinct ls ≡ true → i < j → j < length ls → get_or ls i 0 ≡ get_or ls j 0 → ⊥
no-two [] i j d h long e = omega arith
no-two (l ∷ ls) i zero d h long e = omega arith
no-two (l ∷ ls) zero (suc j) d h long e =
    eqb-false l (get_or ls j 0) (none_of (eqb l) ls 0 (not-true _ (distinct-both l ls d).0) j (omega arith)) e
no-two (l ∷ ls) (suc i) (suc j) d h long e = no-two ls i j (distinct-both l ls d).1 (omega arith) (omega arith) e
