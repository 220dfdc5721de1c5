-- Document 01, 'A header read': the answer holds the word and an outcome. Document 02, #106: and a ceiling. #107: by score and ceiling the outcome is
-- given.
use Rattle.std.specs.Prelude.{ℕ, ◌≡◌}
use Rattle.util.specs.Choose.{choose}
use Rattle.trellis.specs.Scale.{Scale}
use Rattle.trellis.specs.Search.{How, closing, candidate, unclosed, Found}

-- Sure and Likely with score and pass, Kept and Open with score
pub data Outcome (A : Type 0) : Type 0 where
  Sure : A → ℕ → Outcome A
  Likely : A → ℕ → Outcome A
  Kept : A → Outcome A
  Open : A → Outcome A

pub record Answer (A : Type 0) : Type 0 where
  pub word : ℕ
  pub outcome : Outcome A
  pub ceiling : A

-- The outcome of a word with score x under the ceiling c (#107). One that is out by closing, or is the best candidate after three passes, is Sure where
-- x is at or above c, with the last pass run: the closing one, or the third. Below c the one is Likely, and the other Kept. The last unclosed word
-- is Open, wherever its score lies.
abbrev pub outcome_of : {A : Type 0} → Scale A → How → A → A → Outcome A
outcome_of S (closing pass) x c = choose (S.gt c x) (Likely x pass) (Sure x pass)
outcome_of S candidate x c = choose (S.gt c x) (Kept x) (Sure x 3)
outcome_of S unclosed x c = Open x

abbrev pub answer_of : {A : Type 0} → Scale A → Found A → A → Answer A
answer_of S f ceiling = record { word = f.word; outcome = outcome_of S f.how f.score ceiling; ceiling = ceiling }

abbrev pub score_in : {A : Type 0} → Outcome A → A
score_in (Sure x pass) = x
score_in (Likely x pass) = x
score_in (Kept x) = x
score_in (Open x) = x

-- handed out as closed is any outcome but Open
abbrev pub HandedOutAsClosed : {A : Type 0} → Outcome A → Type 0
HandedOutAsClosed {A} o = (x : A) → o ≡ Open x → ⊥

-- out by closing in the first pass is Sure with pass 1: a candidate that is Sure has pass 3
abbrev pub OutInFirstPass : {A : Type 0} → Outcome A → Type 0
OutInFirstPass {A} o = (x : A) × (o ≡ Sure x 1)

-- Sure, whichever pass gave the word
abbrev pub IsSure : {A : Type 0} → Outcome A → Type 0
IsSure {A} o = (x : A) × (q : ℕ) × (o ≡ Sure x q)
