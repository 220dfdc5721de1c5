-- `frame::crc_init` meets its contract: mode and kind are named by their numbers, and the code is the definition. Assumes nothing.
use Prim.Native.Nat.{ℕ}
use mathlib.Core.List.{List}
use mathlib.Core.Path.{ap₂, ◌∙◌}
use lib.Bits.{bit_xor}
use lib.ListN.{get_or}
use Rattle.frame.specs.Crc.{base_start, start_of}
use Rattle.frame.proofs.crc_init.Goals as goal

pub returns : goal.returns
unfolding start_of base_start
returns c =
    ap₂ bit_xor
    (c.base_start.ensures ∙ ap₂ (λ (l : List ℕ) (k : ℕ). get_or l k 0) c.of.ensures.starts (c.of-2.ensures.named c.requires))
    c.layout_mask.ensures
