-- `slip::slip_of` meets its contract: the numbers are those of the outcome that they name. Assumes nothing.
use mathlib.Core.Path.{ap, ◌∙◌}
use lib.Ieee.{Float}
use Rattle.trellis.specs.Answer.{score_in}
use Rattle.outcome.specs.Numbers.{outcome_number, pass_number}
use Rattle.slip.proofs.Numbers.{back}
use Rattle.slip.proofs.slip_of.Goals as goal

pub returns : goal.returns
returns c =
    let f = c.args.f in
    let numbers = back f.outcome f.pass f.score c.requires in
    let named = c.from_numbers.ensures in
    let outcome = ap outcome_number named ∙ numbers.of-outcome in
    let pass = ap pass_number named ∙ numbers.of-pass in
    let score = ap (score_in {A = Float}) named ∙ numbers.of-score in
    λ i. record {
      mode = f.mode;
      kind = f.kind;
      word = f.word;
      outcome = outcome i;
      pass = pass i;
      score = score i;
      start = f.start;
      segment = f.segment;
    }
