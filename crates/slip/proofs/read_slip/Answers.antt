-- `slip::read_slip` meets its contract: the numbers read are some slip's, and what is read is as document 02 says. Assumes nothing.
use Rattle.std.proofs.Common.{rules, ◌≡◌}
use mathlib.Core.Path.{sym, ap, subst, ◌∙◌}
use Rattle.util.specs.Refusal.{accepted, refused, number_of, meaning, meaning_by}
use Rattle.slip.specs.Slips.{fields_of, reading, Reads}
use Rattle.slip.proofs.Slips.{values, reads}
use Rattle.slip.proofs.read_slip.Goals as goal

pub slip_of-requires : goal.slip_of-requires
slip_of-requires c =
    let f = c.in_ok-read_fields.field-0 in
    let is : accepted f ≡ reading _ = ap meaning (sym c.in_ok-read_fields.was) ∙ c.read_fields.ensures.answer in
    (values f (subst (Reads _) (sym is) (reads _)).0).of-pass

pub returns-in_err-read_fields-clause-single : goal.returns-in_err-read_fields-clause-single
returns-in_err-read_fields-clause-single c =
    let e = c.in_err-read_fields.field-0.0 in
    let told : meaning_by fields_of c.from_residual.result ≡ refused (number_of e) = search rules in
    let is = told ∙ ap meaning (sym c.in_err-read_fields.was) ∙ c.read_fields.ensures.answer in
    subst (Reads _) (sym is) (reads _)

pub returns-clause-single : goal.returns-clause-single
returns-clause-single c =
    let is : accepted c.in_ok-read_fields.field-0 ≡ reading _ = ap meaning (sym c.in_ok-read_fields.was) ∙ c.read_fields.ensures.answer in
    let slip : accepted (fields_of c.slip_of.result) ≡ reading _ = ap accepted c.slip_of.ensures ∙ is in
    subst (Reads _) (sym slip) (reads _)
