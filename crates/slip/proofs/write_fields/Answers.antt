-- `slip::write_fields` meets its contract: each return by the tests that led there, and only the last has written. Assumes nothing.
use mathlib.Core.Path.{sym, ◌∙◌}
use borrow.Author.Tests.{eq-eqb, ne_eqb}
use lib.ListN.{length}
use Rattle.slip.specs.Spelling.{spell}
use Rattle.slip.proofs.Slips.{values, forty-four}
use Rattle.slip.proofs.write_fields.Goals as goal

pub returns-then-out-ne44-clause-answer : goal.returns-then-out-ne44-clause-answer
returns-then-out-ne44-clause-answer c =
    let a = c.args in
    let other = ne_eqb (length a.out.now) (length (spell a.f)) (λ e. c.if-out-ne44.true (e ∙ forty-four a.f)) in
    simp other

pub returns-then-out-ne44-clause-lent : goal.returns-then-out-ne44-clause-lent
returns-then-out-ne44-clause-lent c =
    let a = c.args in
    let other = ne_eqb (length a.out.now) (length (spell a.f)) (λ e. c.if-out-ne44.true (e ∙ forty-four a.f)) in
    simp other

pub returns-then-not-is_lawful-clause-answer : goal.returns-then-not-is_lawful-clause-answer
returns-then-not-is_lawful-clause-answer c =
    let a = c.args in
    let long = eq-eqb (length a.out.now) (length (spell a.f)) (c.if-out-ne44.false ∙ sym (forty-four a.f)) in
    let law = sym c.is_lawful.ensures ∙ c.if-not-is_lawful.true in
    simp (long, law)

pub put_fields-requires : goal.put_fields-requires
put_fields-requires c =
    (c.if-out-ne44.false, (values _ (sym c.is_lawful.ensures ∙ c.if-not-is_lawful.false)).is_finite)
