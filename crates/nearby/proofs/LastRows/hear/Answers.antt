-- `nearby::LastRows::hear` meets its contract, by those of its calls: the marks and the values of the row in its place. Assumes nothing.
use lib.Ieee.{nan}
use Prim.Native.Nat.{ℕ, ◌*◌, ◌%◌}
use mathlib.Core.Path.{ap, ◌∙◌}
use native.Mathlib.Omega.{arith}
use Rattle.level.specs.Row.{ratio_of, strongest_of, held_of}
use Rattle.level.proofs.Tone.{strongest-same}
use Rattle.nearby.proofs.Rows.{moved, held-is}
use Rattle.nearby.proofs.LastRows.hear.Goals as goal

pub returns : goal.returns
returns c =
    let ratios = c.ratios-row.ensures.1 in
    let tone = c.strongest.ensures.answer in
    let marks = c.marks-held.ensures.1 in
    let put = c.put_row.ensures 0 in
    let row_put = c.put_row-2.ensures nan in
    let pre = c.requires in
    let a = c.args in
    let row = ratio_of a.energies.now a.noise.now a.i in
    let same = tone ∙ strongest-same a.bins a.h _ row (omega arith) (λ b h. ratios b (omega arith)) in
    moved a.i a.self.now.marks a.self.now.values _ _
    (record { marks-before = put.stored.kept; marks-after = put.after; values-before = row_put.stored.kept; values-after = row_put.after })
    (held_of row (strongest_of a.bins a.h row)) put.stored.size row_put.stored.size
    (λ b h. held-is _ _ (52 * (a.i % 25)) _ b row (put.stored.done b h ∙ marks b h) (row_put.stored.done b h ∙ ratios b h) ∙ ap (λ (e : ℕ). held_of row e b) same)
