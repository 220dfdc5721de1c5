-- A test of every entry, one after another: what is left has one that passes exactly where the whole has one. Assumes nothing.
use Rattle.std.proofs.Common.{◌≡◌, ℕ, zero, suc, ◌+◌, ◌<◌, ◌≤◌, Bool, true, false, ◌||◌, List, [], ◌∷◌, length, get_or, drop, sym, refl, ap, ◌∙◌, true≢false, add-one, arith, drop_of_length-le, drop-cons}
use Rattle.util.specs.Some.{some_of}

module _ {A : Type 0} (test : A → Bool) (l : List A) (i : ℕ) (so_far : some_of test (drop i l) ≡ some_of test l) where
  -- by the first entry of what is left
  first : (d : A) → i < length l → (test (get_or l i d) || some_of test (drop (i + 1) l)) ≡ some_of test l
  first d h =
      ap (λ (n : ℕ). test (get_or l i d) || some_of test (drop n l)) (add-one i) ∙ sym (ap (some_of test) (drop-cons l i d h)) ∙ so_far

  pub some-here : (d : A) → i < length l → test (get_or l i d) ≡ true → true ≡ some_of test l
  some-here d h e = sym (ap (λ (t : Bool). t || some_of test (drop (i + 1) l)) e) ∙ first d h

  pub not-here : (d : A) → i < length l → test (get_or l i d) ≡ false → some_of test (drop (i + 1) l) ≡ some_of test l
  not-here d h e = sym (ap (λ (t : Bool). t || some_of test (drop (i + 1) l)) e) ∙ first d h

  pub none_left : length l ≤ i → false ≡ some_of test l
  none_left h = sym (ap (some_of test) (drop_of_length-le l h)) ∙ so_far

pub neither : (a b : Bool) → (a || b) ≡ false → (a ≡ false) × (b ≡ false)
neither true b e = absurd (true≢false e)
neither false b e = (refl, e)

-- where none passes, none does at any place, and the other way round
pub none_of : {A : Type 0} (test : A → Bool) (l : List A) (d : A) → some_of test l ≡ false → (i : ℕ) → i < length l → test (get_or l i d) ≡ false
none_of test [] d e i h = absurd (omega arith)
none_of test (a ∷ l) d e zero h = (neither (test a) (some_of test l) e).0
none_of test (a ∷ l) d e (suc i) h = none_of test l d (neither (test a) (some_of test l) e).1 i (omega arith)

pub none-where : {A : Type 0} (test : A → Bool) (l : List A) (d : A) → ((i : ℕ) → i < length l → test (get_or l i d) ≡ false) → some_of test l ≡ false
none-where test [] d h = refl
none-where test (a ∷ l) d h = ap (λ (t : Bool). t || some_of test l) (h 0 (omega arith)) ∙ none-where test l d (λ i k. h (suc i) (omega arith))
