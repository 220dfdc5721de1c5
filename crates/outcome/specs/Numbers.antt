-- A header's outcome as numbers: 0 Sure, 1 Kept, 2 Open, 3 Likely, which came last (document 02, #107); the pass of a Sure or a Likely, else 0; and
-- the score (trellis `Answer.score_in`).
use Rattle.std.specs.Prelude.{ℕ, eqb, Float}
use Rattle.util.specs.Choose.{choose}
use Rattle.trellis.specs.Answer.{Outcome, Sure, Likely, Kept, Open}

abbrev pub outcome_number : Outcome Float → ℕ
outcome_number (Sure x pass) = 0
outcome_number (Likely x pass) = 3
outcome_number (Kept x) = 1
outcome_number (Open x) = 2

abbrev pub pass_number : Outcome Float → ℕ
pass_number (Sure x pass) = pass
pass_number (Likely x pass) = pass
pass_number (Kept x) = 0
pass_number (Open x) = 0

-- the outcome that numbers name
abbrev pub outcome_at : ℕ → ℕ → Float → Outcome Float
outcome_at outcome pass score =
    choose (eqb outcome 0) (Sure score pass) (choose (eqb outcome 1) (Kept score) (choose (eqb outcome 3) (Likely score pass) (Open score)))
