-- `roots::append_count` meets its contract: `io::decimal` has the fewest digits, which are one or two. Assumes nothing.
use mathlib.Core.List.{List, ◌++◌}
use mathlib.Core.Path.{ap, ◌∙◌}
use native.Mathlib.Omega.{arith}
use lib.ListN.{take}
use Rattle.roots.proofs.Parts.{decimal-is}
use Rattle.roots.proofs.append_count.Goals as goal

pub append-requires : goal.append-requires
append-requires c =
    let d = c.decimal-long in
    let text = decimal-is c.args.n d.result _ c.requires.0 d.ensures.len d.ensures.digits in
    omega (arith, d.ensures.in_bounds.1, text.0, c.requires.1)

pub returns-clause-end : goal.returns-clause-end
returns-clause-end c =
    let d = c.decimal-long in
    let told = c.append.ensures in
    let text = decimal-is c.args.n d.result _ c.requires.0 d.ensures.len d.ensures.digits in
    omega (arith, told.end, d.ensures.in_bounds.1, text.0)

pub returns-clause-text : goal.returns-clause-text
returns-clause-text c =
    let d = c.decimal-long in
    let told = c.append.ensures in
    let text = decimal-is c.args.n d.result _ c.requires.0 d.ensures.len d.ensures.digits in
    told.text ∙ ap (λ (l : List _). take c.args.at c.args.out.now ++ l) text.1
