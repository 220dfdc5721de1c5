-- `peak::end_state` meets its contract. Assumes nothing.
use native.Mathlib.Omega.{arith}
use Rattle.std.proofs.Common.{rules}
use Rattle.pass.specs.Areas.{table}
use Rattle.peak.proofs.Greatest.{first-reached, none-reached}
use Rattle.peak.proofs.end_state.Goals as goal

pub returns-then-scores-s : goal.returns-then-scores-s
returns-then-scores-s c =
    (first-reached (c.peak-top.ensures (table c.args.scores.now) (λ s r k. search rules)) (omega arith) c.loop-s.s (omega arith) c.if-scores-s.true c.loop-s.invariant.1, omega arith)

pub returns : goal.returns
returns c =
    (none-reached (c.peak-top.ensures (table c.args.scores.now) (λ s r k. search rules)) (omega arith) (λ t h. c.loop-s.invariant.1 t (omega arith)), omega arith)
