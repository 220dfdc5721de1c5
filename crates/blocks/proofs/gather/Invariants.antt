-- The loop's invariant: i is at most k, and what is gathered so far is what the first i blocks give. The measure is what is left of k.
use Rattle.std.proofs.Common.{◌-◌, ◌≤◌}
use Rattle.blocks.specs.Inside.{Gathers}
use Rattle.blocks.proofs.gather.Given as goal

abbrev pub invariant-loop-i : goal.invariant-loop-i
invariant-loop-i g l = (l.i ≤ l.k) × Gathers (g.B.Blocks.listed l.blocks) l.i l.g

abbrev pub decreases-loop-i : goal.decreases-loop-i
decreases-loop-i g l = l.k - l.i
