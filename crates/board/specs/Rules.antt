-- Document 02, #105, #107 and #110: the yard's two rules, by which a new slip for a listed segment is judged.
use Rattle.std.specs.Prelude.{ℕ, Bool, true, false, List, ◌≡◌, eqb, ltb, Float}
use Rattle.util.specs.Choose.{choose}
use Rattle.trellis.specs.Answer.{Outcome, Sure, Likely, Kept, Open}
use Rattle.outcome.specs.Numbers.{outcome_at}
use Rattle.slip.specs.Slips.{taken}
use Rattle.slip.specs.declared.Fields.{Fields}

-- a rule says of the listed slip and of the new one, in this order, whether the new one replaces it
abbrev pub Rule : Type 0
Rule = Fields → Fields → Bool

-- which of the two is left
abbrev pub judge : Rule → List ℕ → List ℕ → List ℕ
judge rule listed new = choose (rule (taken listed) (taken new)) new listed

-- the best reading first: Sure, Likely, Kept, Open. Neither pass nor score counts. This is no outcome byte.
abbrev pub rank : Outcome Float → ℕ
rank (Sure x pass) = 0
rank (Likely x pass) = 1
rank (Kept x) = 2
rank (Open x) = 3

abbrev pub rank_of : Fields → ℕ
rank_of f = rank (outcome_at f.outcome f.pass f.score)

-- a better reading replaces a worse one
abbrev pub better : Rule
better listed new = ltb (rank_of new) (rank_of listed)

-- a later start sample replaces an earlier one
abbrev pub later : Rule
later listed new = ltb listed.start new.start

-- reading first, start between equal readings, the listed slip if both are equal (#110)
abbrev pub reading_first : Rule
reading_first listed new = choose (eqb (rank_of new) (rank_of listed)) (later listed new) (better listed new)

-- ---- what a rule that orders slips has: of two slips at most one replaces the other, and what replaces a slip replaces each one that
-- does not replace that slip
pub record Orders (rule : Rule) : Type 0 where
  pub one_way : (f g : Fields) → rule f g ≡ true → rule g f ≡ false
  pub onward : (f g h : Fields) → rule f g ≡ true → rule f h ≡ false → rule h g ≡ true
