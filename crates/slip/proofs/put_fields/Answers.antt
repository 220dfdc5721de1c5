-- `slip::put_fields` meets its contract: the code is the definition. Assumes nothing.
use mathlib.Core.List.{List, ◌++◌}
use mathlib.Core.Path.{ap₂, ◌∙◌}
use Prim.Native.Nat.{ℕ}
use Rattle.wire.specs.Bytes.{big}
use Rattle.slip.specs.Spelling.{field, spell}
use Rattle.slip.proofs.put_fields.Goals as goal

pub returns : goal.returns
unfolding spell
returns c =
    let f = c.args.f in
    c.put_last.ensures
    ∙ ap₂ (λ (l v : List ℕ). l ++ field 4 v ++ field 5 (big 8 f.start) ++ field 6 (big 2 f.segment)) c.put_first.ensures.bytes
    c.outcome_value-outcome.ensures
