-- The face to C of both ways of reading a header: a number, and results that are written only where it is 0 (`number` and `place` of util's Refusal).
use Rattle.std.specs.Prelude.{ℕ, List, ◌≡◌, Float}
use Rattle.util.specs.Refusal.{Outcome, number, place}
use Rattle.ieee.specs.Whole.{plus_zero}
use Rattle.trellis.specs.Answer as Answer
use Rattle.trellis.specs.Answer.{score_in}
use Rattle.header.specs.Read.{Areas, header_read, area_after}
use Rattle.header_with.specs.With.{header_read_with}
use Rattle.outcome.specs.Numbers.{outcome_number, pass_number, outcome_at}

-- the five places lent for its answer
pub record Lent : Type 0 where
  pub word : ℕ
  pub outcome : ℕ
  pub pass : ℕ
  pub score : Float
  pub ceiling : Float

abbrev pub lent : ℕ → ℕ → ℕ → Float → Float → Lent
lent word outcome pass score ceiling = record { word = word; outcome = outcome; pass = pass; score = score; ceiling = ceiling }

-- the answer that they hold
abbrev pub answer_at : Lent → Answer.Answer Float
answer_at l = record { word = l.word; outcome = outcome_at l.outcome l.pass l.score; ceiling = l.ceiling }

-- by a read's outcome o: the number and the five places at exit
pub record Told (o : Outcome (Answer.Answer Float)) (was new : Lent) (r : ℕ) : Type 0 where
  pub answer : r ≡ number o
  pub of_word : new.word ≡ place (λ (a : Answer.Answer Float). a.word) o was.word
  pub of-outcome : new.outcome ≡ place (λ (a : Answer.Answer Float). outcome_number a.outcome) o was.outcome
  pub of-pass : new.pass ≡ place (λ (a : Answer.Answer Float). pass_number a.outcome) o was.pass
  pub of-score : new.score ≡ place (λ (a : Answer.Answer Float). score_in a.outcome) o was.score
  pub of-ceiling : new.ceiling ≡ place (λ (a : Answer.Answer Float). a.ceiling) o was.ceiling

-- and the four areas
pub record Faced (o : Outcome (Answer.Answer Float)) (w w' : Areas) (was new : Lent) (r : ℕ) : Type 0 where
  pub told : Told o was new r
  pub of-scores : w'.scores ≡ area_after o plus_zero w.scores
  pub of-next : w'.next ≡ area_after o plus_zero w.next
  pub of-start : w'.start ≡ area_after o plus_zero w.start
  pub of-decisions : w'.decisions ≡ area_after o 0 w.decisions

-- the header read, and the header read with a lent table of labels
abbrev pub HeaderFace : ℕ → ℕ → List Float → Areas → Areas → Lent → Lent → ℕ → Type 0
HeaderFace mode kind terms w w' was new r = Faced (header_read mode kind terms w) w w' was new r

abbrev pub HeaderFaceWith : ℕ → ℕ → List Float → List ℕ → Areas → Areas → Lent → Lent → ℕ → Type 0
HeaderFaceWith mode kind terms labels w w' was new r = Faced (header_read_with mode kind terms labels w) w w' was new r
