-- `slip::read_fields` meets its contract: each return by the tests that led there. Assumes nothing.
use mathlib.Core.Bool.{true≢false}
use mathlib.Core.Path.{sym, ap, ◌∙◌}
use Rattle.util.specs.Refusal.{accepted}
use Rattle.slip.specs.Lawful.{lawful}
use Rattle.slip.specs.Spelling.{spell}
use Rattle.slip.proofs.Slips.{values, not-forty-four, not-lawful, not-spelt, answered}
use Rattle.slip.proofs.read_fields.Goals as goal
use Rattle.slip.proofs.read_fields.Goals.{else-is_lawful-via-then-is_lawful+else-is_spelt, else-is_lawful-via-else-is_lawful}

pub returns-then-bytes-ne44 : goal.returns-then-bytes-ne44
returns-then-bytes-ne44 c = record { answer = (not-forty-four _ c.if-bytes-ne44.true) }

pub is_spelt-requires : goal.is_spelt-requires
is_spelt-requires c = (values _ (sym c.is_lawful.ensures ∙ c.if-is_lawful.true)).is_finite

pub returns-then-is_spelt : goal.returns-then-is_spelt
returns-then-is_spelt c =
    record {
      answer = (let its = c.take_fields-f.ensures in
          let law = sym c.is_lawful.ensures ∙ c.if-is_lawful.true in
          ap accepted its
          ∙ answered _ (ap lawful (sym its) ∙ law) (ap spell (sym its) ∙ c.is_spelt.ensures.0 c.if-is_spelt.true));
    }

pub returns-else-is_lawful : goal.returns-else-is_lawful
returns-else-is_lawful c =
    record {
      answer = (let its = c.take_fields-f.ensures in
          elim c.else-is_lawful.branch [
            | else-is_lawful-via-then-is_lawful+else-is_spelt w ↦
                not-spelt _ (λ e. true≢false (sym (w.is_spelt.ensures.1 (ap spell its ∙ e)) ∙ w.if-is_spelt.false))
            | else-is_lawful-via-else-is_lawful w ↦ not-lawful _ (ap lawful (sym its) ∙ sym c.is_lawful.ensures ∙ w.if-is_lawful.false)
          ]);
    }
