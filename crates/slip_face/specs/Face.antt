-- The slips' face to C: eight numbers.
use Rattle.std.specs.Prelude.{ℕ, true, List, ◌≡◌, Float}
use Rattle.slip.specs.Spelling.{spell}
use Rattle.slip.specs.Lawful.{lawful}
use Rattle.slip.specs.declared.Fields.{Fields}

-- the values that eight numbers make
abbrev pub fields : ℕ → ℕ → ℕ → ℕ → ℕ → Float → ℕ → ℕ → Fields
fields mode kind word outcome pass score start segment =
    record {
      mode = mode;
      kind = kind;
      word = word;
      outcome = outcome;
      pass = pass;
      score = score;
      start = start;
      segment = segment;
    }

-- what is told of a string: 0, and then the eight numbers are the lawful slip's that is spelt as it; else 13, and then no lawful slip is
pub record Told (b : List ℕ) (r : ℕ) (f : Fields) : Type 0 where
  pub read : r ≡ 0 → (lawful f ≡ true) × (spell f ≡ b)
  pub refused : (r ≡ 0 → ⊥) → (r ≡ 13) × ((g : Fields) → lawful g ≡ true → spell g ≡ b → ⊥)
