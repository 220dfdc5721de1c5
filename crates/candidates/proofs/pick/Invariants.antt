-- The loop's invariant: the states passed are considered. The measure is what is left of them. Assumes nothing.
use Prim.Native.Nat.{ℕ, ◌-◌, ◌≤◌}
use mathlib.Core.List.{List}
use mathlib.Core.Path.{◌≡◌}
use Rattle.pass.specs.Areas.{table, packed}
use Rattle.candidates.specs.Best.{held_is, Inside}
use Rattle.forward.specs.Follow.{Starts}
use Rattle.candidates.specs.Scan.{scanned}
use Rattle.candidates.proofs.pick.Given as goal

abbrev pub invariant-loop-s : goal.invariant-loop-s
invariant-loop-s l = (l.s ≤ 16384) × Inside l.held × ((d : List ℕ) (n : ℕ) → Starts d n l.starts → held_is (packed d) n l.held
    ≡ scanned (packed d) n (table l.scores) (table l.start) (held_is (packed d) n l.initial.held) l.s)

abbrev pub decreases-loop-s : goal.decreases-loop-s
decreases-loop-s l = 16384 - l.s
