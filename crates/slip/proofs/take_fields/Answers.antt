-- `slip::take_fields` meets its contract: each value from its own place. Assumes nothing.
use mathlib.Core.Path.{ap, ◌∙◌}
use lib.Ieee.{binary32, of_bits}
use lib.ListN.{get_or}
use Rattle.slip.specs.Slips.{taken}
use Rattle.slip.proofs.take_fields.Goals as goal

pub returns : goal.returns
unfolding taken
returns c =
    let bytes = c.args.bytes.now in
    let score = c.float_of.ensures ∙ ap (of_bits binary32) c.number_at-pattern.ensures.number in
    λ i. record {
      mode = get_or bytes 3 0;
      kind = get_or bytes 7 0;
      word = c.number_at.ensures.number i;
      outcome = get_or bytes 22 0;
      pass = get_or bytes 23 0;
      score = score i;
      start = c.number_at-2.ensures.number i;
      segment = c.number_at-segment.ensures.number i;
    }
