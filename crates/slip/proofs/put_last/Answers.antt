-- `slip::put_last` meets its contract: each field stands behind the one before, and the last ends the 44 bytes. Assumes nothing.
use mathlib.Core.List.{List, ◌++◌}
use mathlib.Core.Path.{sym, ap, ◌∙◌}
use Prim.Native.Nat.{ℕ}
use native.Mathlib.Omega.{arith}
use lib.ListN.{take}
use lib.Seq.{take_all}
use Rattle.wire.specs.Bytes.{big}
use Rattle.slip.specs.Spelling.{field}
use Rattle.slip.proofs.put_last.Goals as goal

pub returns : goal.returns
returns c =
    let a = c.args in
    let one = c.put_field.ensures in
    let two = c.put_field-2.ensures in
    let three = c.put_field-3.ensures in
    let all = three.size ∙ two.size ∙ one.size ∙ c.requires in
    sym (take_all 44 _ (omega (arith, all)))
    ∙ three.bytes
    ∙ ap (λ (n : ℕ). take 39 c.put_field-2.new.out ++ field 6 (big 2 n)) c.from.ensures
    ∙ ap (λ (l : List ℕ). l ++ field 6 (big 2 a.segment)) (two.bytes ∙ ap (λ (l : List ℕ). l ++ field 5 (big 8 a.start)) one.bytes)
