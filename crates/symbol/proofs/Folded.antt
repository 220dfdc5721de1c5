-- A run over a list's places is std's `fold` of the list. Assumes nothing.
use Rattle.std.specs.Prelude.{◌≡◌, ℕ, zero, suc, List, [], ◌∷◌, fold, length, get_or, refl}
use Rattle.std.proofs.Common.{sym, ap, ◌∙◌}
use Rattle.ieee.specs.Whole.{run}

run-front : {A : Type 0} (op : A → A → A) (a : A) (x : ℕ → A) (n : ℕ) → run op a x (suc n) ≡ run op (op a (x 0)) (λ i. x (suc i)) n
unfolding run
run-front op a x zero = refl
run-front op a x (suc n) = ap (λ s. op s (x (suc n))) (run-front op a x n)

pub fold-run : {A : Type 0} (op : A → A → A) (a d : A) (xs : List A) → fold op a xs ≡ run op a (λ i. get_or xs i d) (length xs)
unfolding run
fold-run op a d [] = refl
fold-run op a d (y ∷ ys) = fold-run op (op a y) d ys ∙ sym (run-front op a (λ i. get_or (y ∷ ys) i d) (length ys))
