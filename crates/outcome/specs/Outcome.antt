-- The outcome as the code holds it, in the words of crate trellis.
use Rattle.std.specs.Prelude.{Float}
use Rattle.trellis.specs.Answer as Answer
use Rattle.outcome.specs.declared.Outcome.{Outcome}
use Rattle.outcome.specs.declared.Outcome.TheVariants.{Sure, Likely, Kept, Open}

abbrev pub outcome_is : Outcome → Answer.Outcome Float
outcome_is (Sure x pass) = Answer.Sure x pass
outcome_is (Likely x pass) = Answer.Likely x pass
outcome_is (Kept x) = Answer.Kept x
outcome_is (Open x) = Answer.Open x
