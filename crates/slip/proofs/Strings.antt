-- Two strings are the same where the test says so. Assumes nothing.
use Prim.Native.Nat.{ℕ}
use mathlib.Core.Bool.{true, true≢false, and-eq-true_iff}
use mathlib.Core.List.{List, [], ◌∷◌}
use mathlib.Core.Path.{◌≡◌, refl, sym, ap₂, subst}
use borrow.Author.Tests.{eqb-true, eq-eqb}
use lib.Dec.{eqb}
use Rattle.slip.specs.Slips.{same}

pub same-is : (a b : List ℕ) → same a b ≡ true → a ≡ b
unfolding same
same-is [] [] e = refl
same-is [] (y ∷ b) e = absurd (true≢false (sym e))
same-is (x ∷ a) [] e = absurd (true≢false (sym e))
same-is (x ∷ a) (y ∷ b) e =
    let both = (and-eq-true_iff (eqb x y) (same a b)).0 e in
    ap₂ ◌∷◌ (eqb-true x y both.0) (same-is a b both.1)

same_self : (a : List ℕ) → same a a ≡ true
unfolding same
same_self [] = refl
same_self (x ∷ a) = (and-eq-true_iff (eqb x x) (same a a)).1 (eq-eqb x x refl, same_self a)

pub is_same : (a b : List ℕ) → a ≡ b → same a b ≡ true
is_same a b e = subst (λ (l : List ℕ). same a l ≡ true) e (same_self a)
