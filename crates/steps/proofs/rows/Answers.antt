-- `steps::rows` meets its contract: one row more, copied over its places. Assumes nothing.
use Prim.Native.Nat.{◌*◌, ◌+◌, ◌-◌}
use mathlib.Core.Path.{◌∙◌}
use native.Mathlib.Omega.{arith}
use lib.Ieee.{nan}
use Rattle.frame.proofs.Air.{header-most}
use Rattle.steps.proofs.Laid.{rows_more}
use Rattle.util.proofs.Copied.{laid}
use Rattle.steps.proofs.rows.Goals as goal

pub loop-j-preserved : goal.loop-j-preserved
loop-j-preserved c =
    let j = c.loop-j.j in
    let list = c.loop-j.list in
    let row = c.row-metrics in
    let inv = c.loop-j.invariant in
    let here = laid nan 32 (32 * j) (32 * j + 32 - 32 * j) row.result c.copy_from_slice.new.self list (omega arith) c.copy_from_slice.ensures.after row.ensures.size
    (omega (arith, header-most c.args.kind)) in
    (inv.0, omega arith, here.size ∙ inv.2, rows_more c.args.mode c.args.kind c.args.terms.now inv.3 row.ensures here)
