-- `peak::top_gain` meets its contract. Assumes nothing.
use mathlib.Core.Path.{ap}
use native.Mathlib.Omega.{arith}
use Rattle.std.proofs.Common.{rules}
use Rattle.peak.specs.Peak.{gain_in}
use Rattle.peak.proofs.Greatest.{first-reached, none-reached}
use Rattle.peak.proofs.top_gain.Goals as goal

pub returns-then-gain-top : goal.returns-then-gain-top
returns-then-gain-top c =
    ap (gain_in c.args.scores.now c.args.start.now)
    (first-reached (c.peak-top.ensures (gain_in c.args.scores.now c.args.start.now) (λ s r k. search rules)) (omega arith) c.loop-s.s (omega arith) c.if-gain-top.true c.loop-s.invariant.1)

pub returns : goal.returns
returns c =
    ap (gain_in c.args.scores.now c.args.start.now)
    (none-reached (c.peak-top.ensures (gain_in c.args.scores.now c.args.start.now) (λ s r k. search rules)) (omega arith) (λ t h. c.loop-s.invariant.1 t (omega arith)))
