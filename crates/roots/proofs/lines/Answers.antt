-- `roots::lines` meets its contract. Assumes nothing.
use Prim.Native.Nat.{ℕ, ◌+◌, ◌-◌}
use mathlib.Core.List.{List, ◌++◌}
use mathlib.Core.Path.{◌≡◌, refl, sym, ap, ◌∙◌}
use native.Mathlib.Omega.{arith}
use Rattle.roots.specs.Printed.{line_of, lines_to}
use Rattle.roots.proofs.Parts.{lines_more}
use Rattle.roots.proofs.lines.Goals as goal

pub loop-n-init : goal.loop-n-init
unfolding lines_to
loop-n-init c = (omega arith, omega arith, omega arith, c.requires, refl)

pub loop-n-preserved : goal.loop-n-preserved
loop-n-preserved c =
    let l = c.loop-n in
    let told = c.line-at.ensures in
    let next : l.n + 1 - 1 ≡ l.n = omega arith in (
      omega arith,
      omega arith,
      omega (arith, told.end),
      omega arith,
      told.text ∙ ap (λ (t : List ℕ). t ++ line_of l.n) l.invariant.4 ∙ lines_more l.n (omega arith) ∙ ap lines_to (sym next),
    )
