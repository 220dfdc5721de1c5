-- `call::block_of` meets its contract: what its calls give, put together. Assumes nothing.
use mathlib.Core.Path.{◌∙◌, ap}
use borrow.Author.Rules.{rules}
use lib.Ieee.{binary64, of_bits, of_int, neg}
use mir.Facts.{to_z-of_z}
use mir.Syntax.{w32}
use mir.Val.{SFits}
use Rattle.call.proofs.block_of.Goals as goal

pub returns : goal.returns
unfolding of_bits of_int neg
returns c =
    let fits : SFits w32 c.shift_sum-sum.result = search rules in
    let whole = c.from.ensures ∙ ap (of_int binary64) (to_z-of_z fits ∙ c.shift_sum-sum.ensures) in
    simp (whole, c.clamp-mis.ensures, c.from-gate.ensures, c.symbol.ensures, c.block_length-n.ensures)
