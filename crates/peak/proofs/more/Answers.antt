-- `peak::more` meets its contract. Assumes nothing.
use Prim.Native.Nat.{◌+◌}
use mathlib.Core.Path.{ap, ◌∙◌}
use native.Mathlib.Omega.{arith}
use lib.Ieee.{Float, nan, lt}
use lib.ListN.{length-set}
use Rattle.util.specs.Choose.{choose}
use Rattle.util.proofs.Fill.{up_done}
use Rattle.pass.specs.Areas.{table}
use Rattle.peak.specs.Peak.{greatest, lane}
use Rattle.peak.proofs.Greatest.{lane-more}
use Rattle.peak.proofs.more.Goals as goal

pub loop-k-preserved : goal.loop-k-preserved
loop-k-preserved g c = (
  omega arith,
  simp length-set c.loop-k.invariant.1,
  λ x is met. let here = is _ _ c.number.ensures in
      up_done c.loop-k.r c.loop-k.k _ nan (λ q. greatest (lane x q) (c.args.i + 1 + 1)) (omega arith)
      (c.greater.ensures ∙ ap (λ (y : Float). choose (lt (table c.args.lanes.now c.loop-k.k) y) y (table c.args.lanes.now c.loop-k.k)) here
      ∙ lane-more met c.loop-k.k (omega arith)) (c.loop-k.invariant.2 x is met),
)

pub returns : goal.returns
returns g c = λ x is met. record { size = c.loop-k.invariant.1; at = λ k l. c.loop-k.invariant.2 x is met k (omega arith) }
