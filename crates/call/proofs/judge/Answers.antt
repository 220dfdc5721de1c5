-- `call::judge` meets its contract: each return by the test that led there. Assumes nothing.
use Prim.Native.Nat.{◌+◌}
use mathlib.Core.Path.{◌≡◌}
use native.Mathlib.Omega.{arith}
use borrow.Author.Tests.{eq-eqb, ne_eqb}
use lib.Ieee.{of_bits}
use Rattle.tracker.specs.Rule.{block_length, waiting}
use Rattle.call.specs.Call.{judged_of}
use Rattle.call.proofs.judge.Goals as goal

pub returns-then-waits-block_length : goal.returns-then-waits-block_length
unfolding judged_of
returns-then-waits-block_length c =
    let ends : waiting c.args.mode c.args.t.n + 1 ≡ block_length c.args.mode = omega
    (arith, c.if-waits-block_length.true, c.block_length.ensures, c.waits.ensures) in
    simp (eq-eqb _ _ ends, c.end_block.ensures, c.block_of-b.ensures)

pub returns-else-waits-block_length : goal.returns-else-waits-block_length
unfolding judged_of of_bits
returns-else-waits-block_length c =
    let goes = ne_eqb (waiting c.args.mode c.args.t.n + 1) (block_length c.args.mode)
    (λ e. c.if-waits-block_length.false (omega (arith, e, c.block_length.ensures, c.waits.ensures))) in
    simp (goes, c.follow.ensures)
