-- Document 02, #103: the writer and the reader, with their refusals.
use Rattle.std.specs.Prelude.{ℕ, Bool, true, false, not, ◌&&◌, List, [], ◌∷◌, ◌≡◌, eqb, Float, length, get_or}
use Rattle.std.specs.Float.{binary32}
use Rattle.std.specs.Float.Ieee.{of_bits}
use Rattle.util.specs.Refusal.{Cause, Outcome, refused, accepted, outcome, afterwards}
use Rattle.trellis.specs.Answer as Answer
use Rattle.trellis.specs.Answer.{Answer, score_in}
use Rattle.outcome.specs.Outcome.{outcome_is}
use Rattle.outcome.specs.Numbers.{outcome_number, pass_number}
use Rattle.wire.specs.Bytes.{number_at}
use Rattle.slip.specs.Spelling.{spell}
use Rattle.slip.specs.Lawful.{lawful}
use Rattle.slip.specs.declared.Slip.{Slip}
use Rattle.slip.specs.declared.Fields.{Fields}

-- a slip's values as the numbers that it holds
abbrev pub numbers_of : ℕ → ℕ → ℕ → Answer.Outcome Float → ℕ → ℕ → Fields
numbers_of mode kind word outcome start segment =
    record {
      mode = mode;
      kind = kind;
      word = word;
      outcome = outcome_number outcome;
      pass = pass_number outcome;
      score = score_in outcome;
      start = start;
      segment = segment;
    }

abbrev pub fields_of : Slip → Fields
fields_of s = numbers_of s.mode s.kind s.word (outcome_is s.outcome) s.start s.segment

-- those of the slip that a header's answer makes: a slip holds no ceiling
abbrev pub answer_fields : ℕ → ℕ → Answer Float → ℕ → ℕ → Fields
answer_fields mode kind a start segment = numbers_of mode kind a.word a.outcome start segment

-- ---- the writer

-- 4 for a lent buffer of another length than the slip's; 13 for other values than a slip's
abbrev pub causes : Fields → ℕ → List Cause
causes f room =
    (record { holds = not (eqb room (length (spell f))); number = 4 })
    ∷ (record { holds = not (lawful f); number = 13 })
    ∷ []

abbrev pub writing : Fields → ℕ → Outcome Unit
writing f room = outcome (causes f room) tt

-- the buffer at exit
abbrev pub written : Fields → List ℕ → List ℕ
written f out = afterwards (writing f (length out)) out (spell f)

-- ---- the reader

-- the values that stand at a slip's places, in any string
unfoldable pub taken : List ℕ → Fields
taken b =
    record {
      mode = get_or b 3 0;
      kind = get_or b 7 0;
      word = number_at b 11 8;
      outcome = get_or b 22 0;
      pass = get_or b 23 0;
      score = of_bits binary32 (number_at b 24 4);
      start = number_at b 31 8;
      segment = number_at b 42 2;
    }

-- two strings are the same
unfoldable pub same : List ℕ → List ℕ → Bool
same [] [] = true
same [] (y ∷ b) = false
same (x ∷ a) [] = false
same (x ∷ a) (y ∷ b) = eqb x y && same a b

-- a string is a slip where the values at its places are a slip's and are spelt as this string
unfoldable pub is_slip : List ℕ → Bool
is_slip b = lawful (taken b) && same (spell (taken b)) b

abbrev pub read_causes : List ℕ → List Cause
read_causes b = (record { holds = not (is_slip b); number = 13 }) ∷ []

abbrev pub reading : List ℕ → Outcome Fields
reading b = outcome (read_causes b) (taken b)

-- what a reader may answer to a string, where these values are lawful: the lawful slip that is spelt as it; 13 where no lawful slip is
abbrev pub ReadsBy : (Fields → Bool) → List ℕ → Outcome Fields → Type 0
ReadsBy law b (accepted f) = (law f ≡ true) × (spell f ≡ b)
ReadsBy law b (refused k) = (k ≡ 13) × ((f : Fields) → law f ≡ true → spell f ≡ b → ⊥)

abbrev pub Reads : List ℕ → Outcome Fields → Type 0
Reads b o = ReadsBy lawful b o
