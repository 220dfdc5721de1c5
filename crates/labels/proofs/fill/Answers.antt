-- `labels::fill` meets its contract. Assumes nothing.
use Prim.Native.Nat.{suc}
use mathlib.Core.Path.{◌≡◌, ◌∙◌}
use native.Mathlib.Omega.{arith}
use lib.ListN.{length, length-set}
use Rattle.labels.proofs.Kept.{power-one, power-next, power-half, adds, first-filled}
use Rattle.labels.proofs.fill.Goals as goal

pub loop-half-init : goal.loop-half-init
loop-half-init c =
    let table = c.args.table.now in
    let size : length table ≡ 32768 = c.requires in
    (0, power-one, length-set table 0 0 ∙ size, first-filled table (omega arith))

pub fill_upper-requires : goal.fill_upper-requires
fill_upper-requires c =
    let inv = c.loop-half.invariant in
    (inv.2, power-half inv.1 c.loop-half-test.true, adds inv.1 c.by_parity.ensures, inv.3)

pub loop-half-preserved : goal.loop-half-preserved
loop-half-preserved c =
    let new = c.fill_upper.ensures in
    (suc c.loop-half.invariant.0, power-next c.loop-half.invariant.1 c.loop-half-test.true, new.0, (λ r h. new.1 r (omega arith)))
