-- `forward::follow` meets its contract. The invariant: the states of the words passed are done. The measure is what is left of the words.
-- Assumes nothing.
use Prim.Native.Nat.{ℕ, ◌*◌, ◌-◌, ◌<◌, ◌≤◌}
use mathlib.Core.Path.{◌≡◌}
use lib.ListN.{length, get_or}
use Rattle.pass.specs.Areas.{packed}
use Rattle.forward.specs.Follow.{had}
use Rattle.forward.proofs.follow.Given as goal

abbrev pub invariant-loop-w : goal.invariant-loop-w
invariant-loop-w l = (l.w ≤ 256) × (length l.to ≡ 16384) × ((s : ℕ) → s < l.w * 64 → get_or l.to s 0 ≡ had l.from (packed l.decisions l.j s) s)

abbrev pub decreases-loop-w : goal.decreases-loop-w
decreases-loop-w l = 256 - l.w
