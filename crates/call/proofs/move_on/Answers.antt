-- `call::move_on` meets its contract: each return by the test that led there. Assumes nothing.
use Prim.Native.Nat.{◌+◌}
use native.Mathlib.Omega.{arith}
use borrow.Author.Tests.{lt-ltb, le-ltb}
use Rattle.call.proofs.Words.{back}
use Rattle.call.specs.Call.{moved}
use Rattle.call.proofs.move_on.Goals as goal

pub returns-then-t-lt2 : goal.returns-then-t-lt2
unfolding moved
returns-then-t-lt2 c = simp (lt-ltb (c.args.t.n + 1) 3 (omega (arith, c.if-t-lt2.true)), back c.args.t.shift (omega (arith, c.requires.shift)))

pub returns : goal.returns
unfolding moved
returns c = simp (le-ltb (c.args.t.n + 1) 3 (omega (arith, c.if-t-lt2.false)), c.judge.ensures, c.sums_after.ensures.0, c.sums_after.ensures.1)
