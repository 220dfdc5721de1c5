-- `burst_input::decimal::read` meets its contract. Assumes nothing.
use Prim.Native.Nat.{ℕ, ◌+◌, ◌^◌, ◌≤◌, ◌<◌}
use mathlib.Core.Logic.{⊎_elim}
use mathlib.Core.Path.{◌≡◌, refl, sym, ap, subst, ◌∙◌}
use native.Mathlib.Omega.{arith}
use lib.ListN.{length, get_or}
use Rattle.util.proofs.Some.{some-here, not-here, none_left}
use Rattle.std.specs.Prelude.{Some}
use Rattle.wire.specs.Bytes.{high_first}
use Rattle.burst_input.specs.Decimal.{no_digit, number_of}
use Rattle.burst_input.proofs.Digits.{one_more, is-other, is_number, empty, other_byte, too_large, number}
use Rattle.burst_input.proofs.decimal.read.Goals as goal

pub returns-then-is_empty : goal.returns-then-is_empty
returns-then-is_empty c = empty c.args.word.now (sym c.if-is_empty.ensures)

pub loop-byte-init : goal.loop-byte-init
unfolding high_first
loop-byte-init c = (refl, omega arith, refl)

pub returns-in_err-sum : goal.returns-in_err-sum
returns-in_err-sum c =
    let word = c.args.word.now in
    let i = c.loop-byte.byte-index in
    c.from_residual.ensures
    ∙ ⊎_elim
    (λ e. other_byte word (sym (some-here no_digit word i c.loop-byte.invariant.2 0 (omega arith) e)))
    (λ large. too_large word (i + 1) (omega arith) (subst (λ (n : ℕ). 2 ^ 64 ≤ n) (one_more word i c.loop-byte.sum c.loop-byte.invariant.0) large))
    (is-other c.loop-byte.sum (get_or word i 0) (sym c.in_err-sum.ensures))

pub loop-byte-preserved : goal.loop-byte-preserved
loop-byte-preserved c =
    let word = c.args.word.now in
    let i = c.loop-byte.byte-index in
    let more = is_number c.loop-byte.sum (get_or word i 0) c.in_ok-sum.sum (sym c.in_ok-sum.ensures) in (
      more.sum ∙ one_more word i c.loop-byte.sum c.loop-byte.invariant.0,
      subst (λ (n : ℕ). n < 2 ^ 64) (sym more.sum) more.small,
      not-here no_digit word i c.loop-byte.invariant.2 0 (omega arith) more.digit,
    )

pub returns : goal.returns
returns c =
    let word = c.args.word.now in
    let all : c.loop-byte.byte-index ≡ length word = omega arith in
    let sum : c.loop-byte.sum ≡ number_of word (length word) = rw all at c.loop-byte.invariant.0 in
    ap Some sum
    ∙ number word (sym c.if-is_empty.ensures) (sym (none_left no_digit word c.loop-byte.byte-index c.loop-byte.invariant.2 (omega arith)))
    (subst (λ (n : ℕ). n < 2 ^ 64) sum c.loop-byte.invariant.1)
