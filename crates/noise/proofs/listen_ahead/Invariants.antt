-- `noise::listen_ahead` meets its contract. The invariant: the 25 places at row t. The measure is what is left of the 12.
-- Assumes nothing.
-- `noise::listen_ahead` meets its contract. The invariant: the 25 places at row t. The measure is what is left of the 12.
-- Assumes nothing.
use Prim.Native.Nat.{◌-◌, ◌≤◌}
use Rattle.nearby.specs.Inside.{Nearby}
use Rattle.noise.specs.Inside.{numbered}
use Rattle.noise.specs.Local.{burst}
use Rattle.noise.proofs.listen_ahead.Given as goal

abbrev pub invariant-loop-t : goal.invariant-loop-t
invariant-loop-t l = (l.t ≤ 12) × Nearby (numbered (burst l.mode l.kind l.rows l.energies l.noise)) l.t l.last.marks l.last.values

abbrev pub decreases-loop-t : goal.decreases-loop-t
decreases-loop-t l = 12 - l.t
