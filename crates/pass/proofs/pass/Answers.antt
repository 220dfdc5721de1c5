-- `pass::pass` meets its contract. Assumes nothing.
use Prim.Native.Nat.{ℕ, ◌+◌}
use mathlib.Core.Path.{◌≡◌, refl, subst}
use native.Mathlib.Omega.{arith}
use Rattle.pass.proofs.Steps.{turned}
use Rattle.pass.specs.Areas.{table, steps_in, Turned}
use Rattle.pass.proofs.pass.Goals as goal

pub loop-j-preserved : goal.loop-j-preserved
loop-j-preserved c =
    let a = c.args in
    let inv = c.loop-j.invariant in (
      refl,
      omega (arith, c.requires.metrics.0.even),
      omega arith,
      turned a.metrics.now (table a.start.now) c.loop-j.j inv.3.room inv.3.ran c.step.ensures c.step-in-loop-j.ensures,
    )

-- the last turn, after which no two steps are left
pub returns-2 : goal.returns-2
returns-2 c =
    let a = c.args in
    let inv = c.loop-j.invariant in
    let last : c.loop-j.j + 2 ≡ steps_in a.metrics.now = omega (arith, c.requires.metrics.0.even) in
    subst (λ (n : ℕ). Turned a.metrics.now (table a.start.now) n c.step-in-loop-j.new.next c.step.new.next c.step-in-loop-j.new.decisions) last
    (turned a.metrics.now (table a.start.now) c.loop-j.j inv.3.room inv.3.ran c.step.ensures c.step-in-loop-j.ensures)
