-- `board::judge` meets its contract. Assumes nothing.
use Prim.Native.Nat.{ℕ, ◌+◌, ◌-◌, ◌*◌}
use mathlib.Core.Bool.{Bool}
use mathlib.Core.List.{List}
use mathlib.Core.Path.{◌≡◌, sym, ap, ap₂, ◌∙◌}
use lib.ListN.{take, drop}
use Rattle.util.proofs.Choose.{not_chosen}
use Rattle.slip.specs.Slips.{taken}
use Rattle.slip.specs.declared.Fields.{Fields}
use Rattle.board.specs.Places.{place_at}
use Rattle.board.specs.Rules.{reading_first}
use Rattle.board.specs.Putting.{replaced}
use Rattle.board.proofs.Places.{part}
use Rattle.board.proofs.judge.Goals as goal

-- what the rule says of the slip at the place and of the new one, by their values as they were taken
decided : (b s : List ℕ) (p : ℕ) (listed new : Fields) (t : Bool) → listed ≡ taken (take (44 * p + 44 - 44 * p) (drop (44 * p) b))
    → new ≡ taken s → t ≡ reading_first listed new → reading_first (taken (place_at b p)) (taken s) ≡ t
decided b s p listed new t e f q = sym (q ∙ ap₂ reading_first (e ∙ ap taken (part p b)) f)

pub returns-else-replaces : goal.returns-else-replaces
returns-else-replaces c =
    let a = c.args in
    let rule = decided a.board.now a.slip.now a.place _ _ _ c.take_fields-listed.ensures c.take_fields.ensures
    c.replaces.ensures
    ∙ c.if-replaces.false in
    sym (not_chosen (replaced a.board.now a.place a.slip.now) a.board.now rule)
