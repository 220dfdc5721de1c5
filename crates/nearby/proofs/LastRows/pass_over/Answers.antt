-- `nearby::LastRows::pass_over` meets its contract: a row of marks 0 is missing. Assumes nothing.
use Rattle.nearby.proofs.Rows.{moved, held-missing}
use lib.ListN.{get_or-replicate}
use mathlib.Core.Option.{none}
use Prim.Native.Nat.{◌*◌, ◌%◌}
use mathlib.Core.Path.{refl, ◌∙◌}
use Rattle.nearby.proofs.LastRows.pass_over.Goals as goal

pub returns : goal.returns
returns c =
    let a = c.args in
    let put = c.put_row.ensures 0 in
    record {
      moved = λ values.
          moved a.i a.self.now.marks values _ values
          (record { marks-before = put.stored.kept; marks-after = put.after; values-before = λ k h. refl; values-after = λ k h. refl }) (λ b. none) put.stored.size refl
          (λ b h. held-missing _ values (52 * (a.i % 25)) b (put.stored.done b h ∙ get_or-replicate 52 b 0 0 h));
      kept = refl;
    }
