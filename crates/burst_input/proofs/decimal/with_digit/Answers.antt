-- `burst_input::decimal::with_digit` meets its contract: each return by the tests that led there. Assumes nothing.
use Rattle.std.proofs.Common.{not, sym, ap, ◌∙◌}
use Rattle.burst_input.proofs.Digits.{summed, too_many, no_number}
use Rattle.burst_input.proofs.decimal.with_digit.Goals as goal

pub returns-then-not-is_ascii_digit : goal.returns-then-not-is_ascii_digit
returns-then-not-is_ascii_digit c = no_number c.args.n c.args.byte (ap not (sym c.if-not-is_ascii_digit.ensures.value))

pub returns-in_err-checked_mul : goal.returns-in_err-checked_mul
returns-in_err-checked_mul c =
    c.from_residual.ensures ∙ too_many c.args.n c.args.byte (ap not (sym c.if-not-is_ascii_digit.ensures.value)) c.in_err-checked_mul.ensures

pub returns : goal.returns
returns c =
    summed c.args.n c.args.byte c.in_ok-checked_mul.field-0 c.from.result c.checked_add.result
    (ap not (sym c.if-not-is_ascii_digit.ensures.value)) c.in_ok-checked_mul.ensures.1 c.from.ensures c.checked_add.ensures
