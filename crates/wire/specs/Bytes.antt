-- Numbers in bytes, the highest byte first.
use Rattle.std.specs.Prelude.{ℕ, zero, suc, ◌+◌, ◌*◌, ◌/◌, ◌%◌, List, [], ◌∷◌, ◌++◌, get_or}

-- k bytes of a number, the highest first
unfoldable pub big : ℕ → ℕ → List ℕ
big zero x = []
big (suc k) x = big k (x / 256) ++ (x % 256 ∷ [])

-- n digits from a place on as a number, the first one highest
unfoldable pub high_first : ℕ → (ℕ → ℕ) → ℕ → ℕ → ℕ
high_first base digit at zero = 0
high_first base digit at (suc n) = base * high_first base digit at n + digit (at + n)

-- the number in k bytes of a list from a place on
abbrev pub number_at : List ℕ → ℕ → ℕ → ℕ
number_at bytes at k = high_first 256 (λ i. get_or bytes i 0) at k
