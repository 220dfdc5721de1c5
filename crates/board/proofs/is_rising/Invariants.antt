-- The loop's invariant: the places still to read rise from the least segment on exactly where all do.
use Rattle.std.proofs.Common.{◌*◌, ◌≡◌, ℕ, length}
use Rattle.board.specs.Places.{places, rising}
use Rattle.board.proofs.is_rising.Given as goal

abbrev pub invariant-loop-place : goal.invariant-loop-place
invariant-loop-place l =
    goal.iterator-loop-place.can_next l.place-iterator × goal.iterator-loop-place.is_finite l.place-iterator
    × (l.place-iterator.size ≡ 44)
    × ((n : ℕ) × (length l.place-iterator.rest.now ≡ 44 * n)
    × (rising l.least (places n l.place-iterator.rest.now) ≡ rising 0 (places l.count l.board)))
