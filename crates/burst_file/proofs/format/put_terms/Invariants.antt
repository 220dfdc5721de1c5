-- The loop's invariant: the places passed hold their floats. The measure is what is left of the 260. Assumes nothing.
use Prim.Native.Nat.{◌*◌, ◌-◌, ◌≤◌}
use lib.Ieee.{nan}
use Rattle.util.specs.Table.{Stored}
use Rattle.burst_file.specs.Numbers.{float_at}
use Rattle.burst_file.proofs.format.put_terms.Given as goal

abbrev pub invariant-loop-i : goal.invariant-loop-i
invariant-loop-i l = (l.i ≤ 260) × Stored nan l.i l.at (λ k. float_at l.bytes (4 * k)) l.initial.terms l.terms

abbrev pub decreases-loop-i : goal.decreases-loop-i
decreases-loop-i l = 260 - l.i
