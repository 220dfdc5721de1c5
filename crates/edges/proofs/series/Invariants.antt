-- `edges::series`'s loop: no more outputs agree than were compared. Assumes nothing.
use Rattle.std.proofs.Common.{◌≤◌}
use Rattle.edges.proofs.series.Given as goal

abbrev pub invariant-loop-output : goal.invariant-loop-output
invariant-loop-output l = l.same ≤ l.output-index
