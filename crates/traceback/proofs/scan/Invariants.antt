-- The loop's invariant: the states passed are considered. Assumes nothing.
use Prim.Native.Nat.{◌≤◌}
use mathlib.Core.Path.{◌≡◌}
use Rattle.pass.specs.Areas.{table, packed}
use Rattle.traceback.specs.Best.{best_is}
use Rattle.traceback.specs.Scan.{scanned}
use Rattle.traceback.proofs.scan.Given as goal

abbrev pub invariant-loop-s : goal.invariant-loop-s
invariant-loop-s l = (l.s ≤ 16384) × (best_is l.best ≡ scanned (packed l.decisions) l.steps (table l.scores) (table l.start) (best_is l.initial.best) l.s)
