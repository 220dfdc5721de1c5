-- `roots::append_bits` meets its contract: a pattern is below 2^32, so that `io::hex` has eight digits at the width of eight. Assumes nothing.
use mathlib.Core.List.{List, ◌++◌}
use mathlib.Core.Path.{ap, ◌∙◌}
use native.Mathlib.Omega.{arith}
use lib.ListN.{take}
use Rattle.ieee.proofs.Values.{pattern-below}
use Rattle.roots.proofs.Parts.{bits_are}
use Rattle.roots.proofs.append_bits.Goals as goal

pub overflow_cast-x : goal.overflow_cast-x
overflow_cast-x c = record { fits = omega (arith, pattern-below c.args.x c.well_formed.1.1.0.1) }

pub append-requires : goal.append-requires
append-requires c =
    let h = c.hex-long in
    let text = bits_are c.args.x h.result _ (pattern-below c.args.x c.well_formed.1.1.0.1) h.ensures.len h.ensures.digits in
    omega (arith, h.ensures.in_bounds.1, text.0, c.requires.1)

pub returns-clause-end : goal.returns-clause-end
returns-clause-end c =
    let h = c.hex-long in
    let told = c.append.ensures in
    let text = bits_are c.args.x h.result _ (pattern-below c.args.x c.well_formed.1.1.0.1) h.ensures.len h.ensures.digits in
    omega (arith, told.end, h.ensures.in_bounds.1, text.0)

pub returns-clause-text : goal.returns-clause-text
returns-clause-text c =
    let h = c.hex-long in
    let told = c.append.ensures in
    let text = bits_are c.args.x h.result _ (pattern-below c.args.x c.well_formed.1.1.0.1) h.ensures.len h.ensures.digits in
    told.text ∙ ap (λ (l : List _). take c.args.at c.args.out.now ++ l) text.1
