-- `header_with::read_header_with` meets its contract: each refusal by the tests that led there and no store; all else is `header::read`'s, whose
-- labels are those of a table that keeps to the parity rule. Assumes nothing.
use mathlib.Core.Path.{sym, ◌∙◌}
use native.Mathlib.Omega.{arith}
use Rattle.labels.proofs.Kept.{labelled-at}
use Rattle.header_with.proofs.read_header_with.Goals as goal

pub read-requires : goal.read-requires
read-requires c =
    let all = sym c.all_kept.ensures ∙ c.if-not-all_kept.false in
    (sym c.room.ensures ∙ c.if-not-room.false, (λ r h. labelled-at _ all r (omega (arith, c.if-labels-ne32768.false))))
