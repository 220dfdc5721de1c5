-- `forward::itself` meets its contract. The invariant: the states passed are their own starts. The measure is what is left of them.
-- Assumes nothing.
use Prim.Native.Nat.{ℕ, ◌-◌, ◌<◌, ◌≤◌}
use mathlib.Core.Path.{◌≡◌}
use lib.ListN.{length, get_or}
use Rattle.forward.proofs.itself.Given as goal

abbrev pub invariant-loop-s : goal.invariant-loop-s
invariant-loop-s l = (l.s ≤ 16384) × (length l.starts ≡ 16384) × ((i : ℕ) → i < l.s → get_or l.starts i 0 ≡ i)

abbrev pub decreases-loop-s : goal.decreases-loop-s
decreases-loop-s l = 16384 - l.s
