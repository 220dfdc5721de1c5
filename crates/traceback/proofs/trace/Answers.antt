-- `traceback::trace` meets its contract. Assumes nothing.
use Prim.Native.Nat.{◌-◌}
use mathlib.Core.Bool.{true, false}
use mathlib.Core.Path.{◌≡◌}
use native.Mathlib.Omega.{arith}
use borrow.Author.Tests.{eq-eqb, ne_eqb}
use Rattle.pass.proofs.Bits.{longer}
use Rattle.traceback.proofs.Tracing.{tracing-more, tracing-done}
use Rattle.traceback.proofs.trace.Goals as goal

pub loop-j-preserved-then-decisions-j-eq1 : goal.loop-j-preserved-then-decisions-j-eq1
loop-j-preserved-then-decisions-j-eq1 c =
    let n = c.args.steps in
    let j = c.loop-j.j in
    let inv = c.loop-j.invariant in (
      omega arith,
      omega arith,
      longer (n - j) (n - (j - 1)) (omega arith) inv.2 (omega arith),
      tracing-more (j - 1) true (omega arith) (eq-eqb _ _ c.if-decisions-j-eq1.true) inv.3,
    )

pub loop-j-preserved : goal.loop-j-preserved
loop-j-preserved c =
    let n = c.args.steps in
    let j = c.loop-j.j in
    let inv = c.loop-j.invariant in (
      omega arith,
      omega arith,
      longer (n - j) (n - (j - 1)) (omega arith) inv.2 (omega arith),
      tracing-more (j - 1) false (omega arith) (ne_eqb _ _ c.if-decisions-j-eq1.false) inv.3,
    )

pub returns : goal.returns
returns c =
    let inv = c.loop-j.invariant in
    let none : c.loop-j.j ≡ 0 = omega arith in
    let done = tracing-done inv.3 none in
    (done.0, done.1, inv.1)
