-- The loop's invariant: the segments passed come before, and with them so many of those still to read as come before all in all.
use Rattle.std.proofs.Common.{◌+◌, ◌*◌, ◌≡◌, ℕ, length}
use Rattle.board.specs.Places.{places, before}
use Rattle.board.proofs.place_for.Given as goal

abbrev pub invariant-loop-i : goal.invariant-loop-i
invariant-loop-i l =
    goal.iterator-loop-i.can_next l.i-iterator × goal.iterator-loop-i.is_finite l.i-iterator
    × (l.i-iterator.iter.size ≡ 44)
    × ((n : ℕ) × (length l.i-iterator.iter.rest.now ≡ 44 * n) × (l.i-iterator.count + n ≡ l.count)
    × (l.i-iterator.count + before l.segment (places n l.i-iterator.iter.rest.now) ≡ before l.segment (places l.count l.board)))
