-- `board::put_slip` meets its contract: each return by the tests that led there. Assumes nothing.
use mathlib.Core.Path.{sym, ◌∙◌}
use native.Mathlib.Omega.{arith}
use Rattle.board.specs.Rules.{reading_first}
use Rattle.board.proofs.Turn.{good-board}
use Rattle.board.proofs.Answers.{too_many, not-rising}
use Rattle.board.proofs.put_slip.Goals as goal

pub returns-then-count-gt512 : goal.returns-then-count-gt512
returns-then-count-gt512 c =
    let a = c.args in
    let leaves = too_many reading_first a.board.now a.slip.now a.count.now c.if-board-ne22528.false c.if-count-gt512.true in
    record { answer = leaves.0; lent = leaves.1.0; counted = leaves.1.1 }

pub returns-then-not-is_rising : goal.returns-then-not-is_rising
returns-then-not-is_rising c =
    let a = c.args in
    let leaves = not-rising reading_first a.board.now a.slip.now a.count.now c.if-board-ne22528.false
    (sym c.is_rising.ensures ∙ c.if-not-is_rising.true) in
    record { answer = leaves.0; lent = leaves.1.0; counted = leaves.1.1 }

pub put_in-requires : goal.put_in-requires
put_in-requires c = (
  c.if-board-ne22528.false,
  (
    good-board _ _ (omega (arith, c.if-count-gt512.false)) (sym c.is_rising.ensures ∙ c.if-not-is_rising.false),
    sym c.is_slip.ensures ∙ c.if-not-is_slip.false,
  ),
)
