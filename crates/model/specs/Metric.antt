-- Document 01, 'A header read': the terms of a symbol, and a value's metric.
use Rattle.std.specs.Prelude.{ℕ, ◌+◌, ◌*◌, ◌-◌}
use Rattle.ieee.specs.Whole.{run}

-- per symbol five rows of 52, row 0 first, place 0 first in each
abbrev pub term_at : ℕ → ℕ → ℕ → ℕ
term_at symbol row place = 260 * symbol + (52 * row + place)

-- the sum from 0.0, j = 0 to 4, of row j at place e+j-2, e the place of the value's bin; over any kind of number
unfoldable pub metric_of : {A : Type 0} → (A → A → A) → A → (ℕ → A) → ℕ → ℕ → A
metric_of op nil terms symbol e = run op nil (λ j. terms (term_at symbol j (e + j - 2))) 5
