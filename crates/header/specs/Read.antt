-- Document 01, 'A header read': the public entry, with its refusals, its answer and its work areas.
use Rattle.std.specs.Prelude.{ℕ, ◌*◌, Bool, not, ◌&&◌, List, [], ◌∷◌, ◌≡◌, eqb, Float, length, replicate}
use Rattle.util.specs.Choose.{choose}
use Rattle.util.specs.Refusal as Refusal
use Rattle.util.specs.Refusal.{Cause, refused, accepted, outcome, afterwards}
use Rattle.frame.specs.Format.{named, header_bits}
use Rattle.model.specs.Range.{some_out}
use Rattle.trellis.specs.Answer as Answer
use Rattle.trellis.specs.Terms.{document_search}
use Rattle.outcome.specs.Outcome.{outcome_is}
use Rattle.header.specs.declared.HeaderAnswer.{HeaderAnswer}

-- the answer in the papers' words
abbrev pub answer_is : HeaderAnswer → Answer.Answer Float
answer_is a = record { word = a.word; outcome = outcome_is a.outcome; ceiling = a.ceiling }

-- work areas: three of 16,384 f32, one of 256 u64 a step
pub record Areas : Type 0 where
  pub scores : List Float
  pub next : List Float
  pub start : List Float
  pub decisions : List ℕ

abbrev pub areas : List Float → List Float → List Float → List ℕ → Areas
areas scores next start decisions = record { scores = scores; next = next; start = start; decisions = decisions }

-- the areas have these lengths
pub record Room (kind : ℕ) (w : Areas) : Type 0 where
  pub of-scores : length w.scores ≡ 16384
  pub of-next : length w.next ≡ 16384
  pub of-start : length w.start ≡ 16384
  pub of-decisions : length w.decisions ≡ header_bits kind * 256

-- terms: per symbol five rows of 52; areas: three of 16,384, one of 256 a step
abbrev pub lengths_right : ℕ → ℕ → ℕ → ℕ → ℕ → ℕ → Bool
lengths_right kind terms scores next start decisions =
    eqb terms (header_bits kind * 260) && (eqb scores 16384 && (eqb next 16384 && (eqb start 16384 && eqb decisions (header_bits kind * 256))))

abbrev pub causes : ℕ → ℕ → List Float → Areas → List Cause
causes mode kind terms w =
    (record { holds = not (named mode kind); number = 1 })
    ∷ (record { holds = not (lengths_right kind (length terms) (length w.scores) (length w.next) (length w.start) (length w.decisions)); number = 4 })
    ∷ (record { holds = some_out terms; number = 6 })
    ∷ []

-- the public entry: its answer
abbrev pub header_read : ℕ → ℕ → List Float → Areas → Refusal.Outcome (Answer.Answer Float)
header_read mode kind terms w = outcome (causes mode kind terms w) (document_search mode kind terms)

-- past the mode, the kind and the lengths: a term out of range, else the search's answer
abbrev pub terms_read : ℕ → ℕ → List Float → Refusal.Outcome (Answer.Answer Float)
terms_read mode kind terms = choose (some_out terms) (refused 6) (accepted (document_search mode kind terms))

-- an area at exit: as it was on a refusal, else zeros
abbrev pub area_after : {A : Type 0} → Refusal.Outcome (Answer.Answer Float) → A → List A → List A
area_after o nil area = afterwards o area (replicate (length area) nil)
