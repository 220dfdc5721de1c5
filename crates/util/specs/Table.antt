-- Lists by their places, for every definition of the project that gives a lent list.
use Rattle.std.specs.Prelude.{◌≡◌, ℕ, zero, suc, ◌+◌, ◌/◌, ◌%◌, ◌<◌, List, [], ◌∷◌, length, slice_index_or}

-- f 0, f 1 and so on to f (n - 1)
unfoldable pub tabled : {A : Type 0} → ℕ → (ℕ → A) → List A
tabled zero f = []
tabled (suc n) f = f 0 ∷ tabled n (λ i. f (suc i))

-- rows of w, one after the other: place w * i + v is place v of row i
unfoldable pub rows : {A : Type 0} → ℕ → (ℕ → ℕ → A) → ℕ → A
rows w f q = f (q / w) (q % w)

-- w places from base on hold row, and the places before are as they were (d stands past the end)
pub record Stored {A : Type 0} (d : A) (w base : ℕ) (row : ℕ → A) (was new : List A) : Type 0 where
  pub size : length new ≡ length was
  pub done : (k : ℕ) → k < w → slice_index_or new (base + k) d ≡ row k
  pub kept : (k : ℕ) → k < base → slice_index_or new k d ≡ slice_index_or was k d
