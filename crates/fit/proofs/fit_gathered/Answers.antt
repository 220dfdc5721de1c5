-- A named mode is no cause, and the slice has the first n points. Assumes nothing.
use native.Mathlib.Omega.{arith}
use mathlib.Core.Bool.{false}
use mathlib.Core.Path.{◌≡◌, refl, sym, ap, ◌∙◌}
use borrow.Author.Tests.{le-leb}
use Prim.Native.Nat.{ℕ}
use lib.Dec.{ltb}
use Rattle.frame.specs.Format.{format_of, mode_number}
use Rattle.frame.specs.declared.format.Mode.{Mode}
use Rattle.frame.specs.declared.format.Mode.TheVariants.{R0, R1}
use Rattle.fit.proofs.Same.{of_first}
use Rattle.fit.proofs.fit_gathered.Goals as goal

low : (m : Mode) → ltb 1 (mode_number m) ≡ false
low R0 = refl
low R1 = refl

pub returns : goal.returns
returns c =
    let known = ap (λ (k : ℕ). ltb 1 k) (sym c.in_ok-mode.ensures) ∙ low c.in_ok-mode.mode in
    let symbol = c.symbol.ensures ∙ ap (λ (k : ℕ). (format_of k).symbol) c.in_ok-mode.ensures in
    let fitted = c.fit_points.ensures ∙ of_first c.symbol.result c.args.n c.args.g.now.points (omega (arith, c.requires, c.if-n-gt64.false)) in
    simp (known, le-leb _ _ c.if-n-gt64.false, c.if-not-g.false, fitted, symbol)
