-- `frame::layout_mask` meets its contract, by the test on the full band: the code is the definition. Assumes nothing.
use Prim.Native.Nat.{ℕ, ◌%◌, ◌^◌}
use mathlib.Core.Path.{sym, ap, ◌∙◌}
use borrow.Author.Tests.{eq-eqb, ne_eqb}
use lib.Bits.{bit_or}
use Rattle.util.proofs.Choose.{chosen, not_chosen}
use Rattle.frame.specs.Crc.{mask_of}
use Rattle.frame.proofs.layout_mask.Goals as goal

pub returns-then-layout-eq1 : goal.returns-then-layout-eq1
unfolding mask_of
returns-then-layout-eq1 c = sym (chosen _ _ (eq-eqb _ _ c.if-layout-eq1.true))

pub returns : goal.returns
unfolding mask_of
returns c = ap (λ (x : ℕ). bit_or (x % 2 ^ 16) 1) c.mix64.ensures ∙ sym (not_chosen _ _ (ne_eqb _ _ c.if-layout-eq1.false))
