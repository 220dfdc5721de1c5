-- A block's fields stand at its place in both lists. Assumes nothing.
use Rattle.std.proofs.Common.{rules}
use mathlib.Core.Path.{sym}
use Rattle.blocks.proofs.Lists.{in_both, block_at}
use Rattle.blocks.proofs.FieldsBlocks.at.Goals as goal

pub offset_bounds-self-i : goal.offset_bounds-self-i
offset_bounds-self-i c = let there = in_both _ _ _ c.requires in search rules

pub bounds-self-i : goal.bounds-self-i
bounds-self-i c = (in_both _ _ _ c.requires).0

pub offset_bounds-self-i-2 : goal.offset_bounds-self-i-2
offset_bounds-self-i-2 c = let there = in_both _ _ _ c.requires in search rules

pub bounds-self-i-2 : goal.bounds-self-i-2
bounds-self-i-2 c = (in_both _ _ _ c.requires).1

pub returns : goal.returns
returns c = let there = in_both _ _ _ c.requires in sym (block_at _ _ c.args.i there.0 there.1)
