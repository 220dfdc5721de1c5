-- `root::whole_root` meets its contract. Assumes nothing.
use Prim.Native.Nat.{ℕ, ◌+◌, ◌-◌, ◌/◌, ◌<◌}
use mathlib.Core.Path.{◌≡◌, refl, sym, ap₂, ◌∙◌}
use native.Mathlib.Omega.{arith}
use Rattle.root.specs.Root.{digits, whole_root}
use Rattle.root.proofs.Turns.{set, unset, ended}
use Rattle.root.proofs.whole_root.Goals as goal
use Rattle.root.proofs.whole_root.Goals.{then-next-t, else-next-t}

pub loop-init : goal.loop-init
unfolding whole_root
loop-init c = (omega arith, omega arith, refl)

pub loop-preserved : goal.loop-preserved
loop-preserved c =
    let at = c.loop in
    let t = c.args.t in
    let k = 24 - at.counter in
    let left : 0 < k = omega arith in
    let fewer : 24 - (at.counter + 1) ≡ k - 1 = omega arith in
    elim c.if-next-t.branch [
      | then-next-t w ↦ (
        omega arith,
        omega arith,
        ap₂ (λ (j m : ℕ). digits j (at.w / 2) t m) fewer w.m-is ∙ sym (set k at.w t at.m left w.if-next-t.true) ∙ at.invariant.2,
      )
      | else-next-t w ↦ (
        omega arith,
        omega arith,
        ap₂ (λ (j m : ℕ). digits j (at.w / 2) t m) fewer w.m-is ∙ sym (unset k at.w t at.m left w.if-next-t.false) ∙ at.invariant.2,
      )
    ]

pub returns-clause-answer : goal.returns-clause-answer
returns-clause-answer c =
    let at = c.loop in
    sym (ended (24 - at.counter) at.w c.args.t at.m (omega arith)) ∙ at.invariant.2
