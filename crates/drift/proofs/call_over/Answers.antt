-- A call by what is gathered is the call (proofs/Called). Assumes nothing.
use Prim.Native.Nat.{ℕ}
use mathlib.Core.Path.{subst}
use Rattle.tracker.specs.Inside.{Readable}
use Rattle.call.specs.Inside.{Steps}
use Rattle.drift.proofs.Called.{called_of}
use Rattle.drift.proofs.call_over.Goals as goal

pub returns : goal.returns
returns g c =
    let a = c.args in
    let bs = g.B.Blocks.listed a.blocks.now in
    called_of a.mode a.t a.shifts.now bs a.s c.readable.result c.gather-g.result
    (subst (λ (n : ℕ). Readable a.mode a.t n c.readable.result) c.count-room.ensures c.readable.ensures) c.gather-g.ensures c.step.result c.step.new.shifts
    (subst (λ (n : ℕ). Steps a.mode a.t a.shifts.now n c.gather-g.result a.s c.step.result c.step.new.shifts) c.count-room.ensures c.step.ensures)
