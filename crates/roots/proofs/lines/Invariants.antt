-- The loop's invariant: the lines before that of n are there. The measure is what is left of the 52. Assumes nothing.
use Prim.Native.Nat.{◌*◌, ◌-◌, ◌≤◌}
use mathlib.Core.Path.{◌≡◌}
use lib.ListN.{length, take}
use Rattle.roots.specs.Printed.{lines_to}
use Rattle.roots.proofs.lines.Given as goal

abbrev pub invariant-loop-n : goal.invariant-loop-n
invariant-loop-n l = (1 ≤ l.n) × (l.n ≤ 53) × (l.at ≤ 12 * (l.n - 1)) × (length l.out ≡ 624) × (take l.at l.out ≡ lines_to (l.n - 1))

abbrev pub decreases-loop-n : goal.decreases-loop-n
decreases-loop-n l = 53 - l.n
