-- `roots::line` meets its contract: its four parts one behind another; a root is no NaN, being the nearest to √n. Assumes nothing.
use mathlib.Core.Bool.{not}
use mathlib.Core.List.{◌++◌}
use mathlib.Core.Path.{sym, ap, subst, ◌∙◌}
use native.Mathlib.Omega.{arith}
use lib.Dec.{T}
use lib.Ieee.{Float, is_nan}
use lib.Ieee.Positive.{positive-finite}
use lib.ListN.{take}
use Rattle.ieee.proofs.Order.{finite-not-nan}
use Rattle.root.specs.Root.{root_of}
use Rattle.root.proofs.Nearest.{nearest}
use Rattle.roots.specs.Printed.{bits_of}
use Rattle.roots.proofs.Parts.{line-is}
use Rattle.roots.proofs.line.Goals as goal

pub append_bits-after_bits-requires : goal.append_bits-after_bits-requires
append_bits-after_bits-requires c =
    let n = c.args.n in
    let plain = finite-not-nan (root_of n) (positive-finite (root_of n) (nearest n c.requires.0 c.requires.1).above) in (
      subst (λ (x : Float). T (not (is_nan x))) (sym c.root.ensures) plain,
      omega arith,
    )

pub returns-clause-text : goal.returns-clause-text
returns-clause-text c =
    let first = c.append_count-after_count in
    let second = c.append-after_blank in
    let root = c.root in
    let third = c.append_bits-after_bits in
    let fourth = c.append in line-is c.args.n (take c.args.at c.args.out.now) _ _ _ _ first.ensures.text second.ensures.text
    (third.ensures.text ∙ ap (λ (x : Float). take second.result second.new.out ++ bits_of x) root.ensures)
    fourth.ensures.text
