-- There are as many blocks as the shorter list has fields. Assumes nothing.
use mathlib.Core.Path.{sym, ◌∙◌}
use Rattle.blocks.proofs.Lists.{count-is}
use Rattle.blocks.proofs.FieldsBlocks.count.Goals as goal

pub returns : goal.returns
returns c = c.min.ensures ∙ sym (count-is _ _)
