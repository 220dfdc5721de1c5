-- `board::insert` meets its contract. Assumes nothing.
use Prim.Native.Nat.{◌-◌}
use mathlib.Core.List.{◌++◌}
use mathlib.Core.Path.{ap, ap₂, ◌∙◌}
use lib.ListN.{length, take, drop}
use lib.Seq.{length-take-le, drop_at}
use Rattle.board.proofs.insert.Goals as goal

pub returns : goal.returns
returns c =
    let part = c.args.part.now in
    ap₂ ◌++◌ c.fill.ensures
    (ap (drop 44) c.move_up.ensures
    ∙ drop_at (take 44 part) (take (length part - 44) part) 44 (length-take-le 44 part c.requires.0))
