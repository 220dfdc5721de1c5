-- `interleave::place` meets its contract. The invariant: what was passed is placed, by any rule that the calls compute, and s is the slot of
-- what comes next. The measure is what is left. Assumes nothing.
use Prim.Native.Nat.{ℕ, ◌+◌, ◌%◌}
use mathlib.Core.Path.{refl, ap, ◌∙◌}
use native.Mathlib.Omega.{arith}
use lib.ListN.{length-set}
use Rattle.frame.specs.Air.{placed}
use Rattle.frame.proofs.Air.{slot-within}
use Rattle.frame.proofs.Placed.{placed-step}
use Rattle.interleave.proofs.Steps.{mult-most, slot-first, slot_next}
use Rattle.interleave.proofs.place.Goals as goal

pub loop-p-init : goal.loop-p-init
unfolding placed
loop-p-init g c = (omega arith, c.requires.lengths.2, slot-first _, λ value k. refl)

pub bounds-slots-s : goal.bounds-slots-s
bounds-slots-s g c =
    let a = c.args in
    omega (arith, c.loop-p.invariant.2, slot-within a.n c.loop-p.p (omega arith))

pub next_slot-s-requires : goal.next_slot-s-requires
next_slot-s-requires g c =
    let a = c.args in
    let inside = slot-within a.n c.loop-p.p (omega arith) in
    (omega arith, omega (arith, c.mult-a.ensures.answer, mult-most a.n (omega arith)), omega (arith, c.loop-p.invariant.2))

pub loop-p-preserved : goal.loop-p-preserved
loop-p-preserved g c =
    let a = c.args in
    let p = c.loop-p.p in (
      omega arith,
      length-set c.loop-p.slots c.loop-p.s c.sent.result ∙ c.loop-p.invariant.1,
      c.next_slot-s.ensures ∙ ap (λ (m : ℕ). (c.loop-p.s + m) % a.n) c.mult-a.ensures.answer ∙ slot_next a.n p c.loop-p.s c.loop-p.invariant.2,
      λ value k. placed-step a.n value a.slots.now c.loop-p.slots p c.loop-p.s c.sent.result
          (c.loop-p.invariant.3 value k) c.loop-p.invariant.2 (k p c.sent.result c.sent.ensures),
    )
