-- An outcome's numbers name it, so no two outcomes have the same. Assumes nothing.
use mathlib.Core.Path.{◌≡◌, refl, sym, ◌∙◌}
use lib.Ieee.{Float}
use Rattle.trellis.specs.Answer.{Outcome, Sure, Likely, Kept, Open, score_in}
use Rattle.outcome.specs.Numbers.{outcome_number, pass_number, outcome_at}

pub named_back : (o : Outcome Float) → outcome_at (outcome_number o) (pass_number o) (score_in o) ≡ o
named_back (Sure x pass) = refl
named_back (Likely x pass) = refl
named_back (Kept x) = refl
named_back (Open x) = refl

pub one-outcome : (o o' : Outcome Float) → outcome_number o ≡ outcome_number o' → pass_number o ≡ pass_number o' → score_in o ≡ score_in o'
    → o ≡ o'
one-outcome o o' e f g = sym (named_back o) ∙ (λ i. outcome_at (e i) (f i) (g i)) ∙ named_back o'
