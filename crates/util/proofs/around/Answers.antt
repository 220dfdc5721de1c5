-- `util::around` meets its contract. Assumes nothing.
use Rattle.std.proofs.Common.{sym, ap, ◌∙◌, arith}
use Rattle.util.specs.Multiplier.{suits}
use Rattle.util.proofs.Tries.{none_left, upper, lower, both-fail}
use Rattle.util.proofs.around.Goals as goal

pub returns-then-suitable : goal.returns-then-suitable
returns-then-suitable c =
    upper (suits c.args.n) c.args.n c.args.s c.loop-d.d (omega arith)
    (sym c.suitable.ensures ∙ c.if-suitable.true)
    ∙ c.loop-d.invariant.1

pub returns-then-suitable-2 : goal.returns-then-suitable-2
returns-then-suitable-2 c =
    let less = c.saturating_sub-below.ensures in
    less
    ∙ lower (suits c.args.n) c.args.n c.args.s c.loop-d.d (omega arith)
    (sym c.suitable.ensures ∙ c.if-suitable.false)
    (sym (ap (suits c.args.n) less) ∙ sym c.suitable-in-loop-d.ensures ∙ c.if-suitable-2.true)
    ∙ c.loop-d.invariant.1

pub loop-d-preserved : goal.loop-d-preserved
loop-d-preserved c =
    let less = c.saturating_sub-below.ensures in (
      omega arith,
      sym (both-fail (suits c.args.n) c.args.n c.args.s c.loop-d.d (omega arith)
          (sym c.suitable.ensures ∙ c.if-suitable.false)
          (sym (ap (suits c.args.n) less) ∙ sym c.suitable-in-loop-d.ensures ∙ c.if-suitable-2.false))
          ∙ c.loop-d.invariant.1,
    )

pub returns : goal.returns
returns c =
    sym (none_left (suits c.args.n) c.args.n c.args.s c.loop-d.d (omega arith)) ∙ c.loop-d.invariant.1
