-- `peak::peak` meets its contract. Assumes nothing.
use mathlib.Core.Path.{◌≡◌, sym, subst}
use native.Mathlib.Omega.{arith}
use lib.Ieee.{Float}
use lib.ListN.{replicate}
use Rattle.peak.specs.Peak.{Lanes, Peak}
use Rattle.peak.proofs.Greatest.{lanes-begun, lanes-peak}
use Rattle.peak.proofs.peak.Goals as goal

pub loop-i-init : goal.loop-i-init
loop-i-init g c = (omega arith, λ x is. subst (λ (y : Float). Lanes x 0 (replicate 16 y)) (sym (is _ _ c.number-lanes.ensures)) (lanes-begun x))

pub loop-i-preserved : goal.loop-i-preserved
loop-i-preserved g c = (omega arith, λ x is. c.more-lanes.ensures x is (c.loop-i.invariant.1 x is))

pub returns : goal.returns
returns g c =
    let all : c.loop-i.i ≡ 1024 = omega arith in
    λ x is. subst (Peak x 16384) (sym c.of_all.ensures) (lanes-peak (rw all at (c.loop-i.invariant.1 x is)) (omega arith))
