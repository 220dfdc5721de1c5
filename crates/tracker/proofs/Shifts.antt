-- Whether all of a list pass a test, one more at its end, and of its first n. Assumes nothing.
use Prim.Native.Nat.{ℕ, ◌≤◌}
use mathlib.Core.Bool.{Bool, ◌&&◌}
use mathlib.Core.List.{List, [], ◌∷◌, ◌++◌}
use mathlib.Core.Path.{◌≡◌, sym, ap, ap₂, ◌∙◌}
use lib.ListN.{length, get_or, take, length-append, get_or-append}
use lib.Seq.{get_or_at, get_or-take, length-take-le}
use Rattle.util.specs.Every.{every}
use Rattle.util.proofs.Every.{every-next, every-same}

module _ {A : Type 0} (test : A → Bool) (d : A) where
  pub one_more : (xs : List A) (x : A) → every (length xs) (λ i. test (get_or xs i d)) && test x
      ≡ every (length (xs ++ (x ∷ []))) (λ i. test (get_or (xs ++ (x ∷ [])) i d))
  one_more xs x =
      ap₂ ◌&&◌ (every-same _ _ (length xs) (λ i h. ap test (sym (get_or-append xs (x ∷ []) d i h))))
      (ap test (sym (get_or_at xs x [] d (length xs) (λ i. length xs))))
      ∙ sym (every-next (λ i. test (get_or (xs ++ (x ∷ [])) i d)) (length xs))
      ∙ ap (λ (n : ℕ). every n (λ i. test (get_or (xs ++ (x ∷ [])) i d))) (sym (length-append xs (x ∷ [])))

  pub of_first : (n : ℕ) (xs : List A) → n ≤ length xs
      → every (length (take n xs)) (λ i. test (get_or (take n xs) i d)) ≡ every n (λ i. test (get_or xs i d))
  of_first n xs h =
      ap (λ (m : ℕ). every m (λ i. test (get_or (take n xs) i d))) (length-take-le n xs h)
      ∙ every-same _ _ n (λ i l. ap test (get_or-take n xs i d l))
