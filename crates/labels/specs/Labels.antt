-- Document 02, #111: the labels of all registers in a lent table, which is filled once and read in the search; the public entry that fills
-- it, with its refusal.
use Rattle.std.specs.Prelude.{ℕ, ◌+◌, ◌*◌, ◌<◌, Bool, not, List, [], ◌∷◌, ◌≡◌, eqb, length, get_or}
use Rattle.std.specs.Int.Bits.{bit_xor}
use Rattle.util.specs.Every.{every}
use Rattle.util.specs.Refusal.{Cause, Outcome, outcome, afterwards}
use Rattle.util.specs.Table.{tabled}
use Rattle.conv.specs.Label.{label_of}

-- entry r is the label of register r by the parity rule, for each of the 32,768 registers of 15 bits
unfoldable pub all_labels : List ℕ
all_labels = tabled 32768 label_of

-- entry r of a table keeps to the parity rule
abbrev pub keeps_at : List ℕ → ℕ → Bool
keeps_at table r = eqb (get_or table r 0) (label_of r)

-- every entry does
unfoldable pub labelled : List ℕ → Bool
labelled table = every 32768 (keeps_at table)

-- the entries below n are labels
abbrev pub Labels : ℕ → List ℕ → Type 0
Labels n table = (r : ℕ) → r < n → get_or table r 0 ≡ label_of r

-- what a search may read its labels from: none of its entries is off the parity rule. With no entries none is read
abbrev pub Lawful : List ℕ → Type 0
Lawful table = Labels (length table) table

-- the labels of the 64 registers from `first` on
pub record Row (first : ℕ) (row : List ℕ) : Type 0 where
  pub size : length row ≡ 64
  pub at : (k : ℕ) → k < 64 → get_or row k 0 ≡ label_of (first + k)

-- the labels of n registers from 0 on, `gap` apart
pub record Spaced (gap n : ℕ) (list : List ℕ) : Type 0 where
  pub at : (k : ℕ) → k < n → get_or list k 0 ≡ label_of (k * gap)

-- n more makes a register's label another by `by`, for every register below n
abbrev pub Adds : ℕ → ℕ → Type 0
Adds n by = (r : ℕ) → r < n → label_of (n + r) ≡ bit_xor (label_of r) by

-- refusal 4: room for another number of entries
abbrev pub causes : ℕ → List Cause
causes room = (record { holds = not (eqb room 32768); number = 4 }) ∷ []

-- the public entry: its answer
abbrev pub fill_answer : ℕ → Outcome Unit
fill_answer room = outcome (causes room) tt

-- the public entry: the table lent
abbrev pub table_after : List ℕ → List ℕ
table_after table = afterwards (fill_answer (length table)) table all_labels
