-- `series::tracks::track_entry` is safe and ends. The invariant: the list of shifts keeps its length. The measure is what is left of the calls.
-- Assumes nothing.
use Rattle.std.proofs.Common.{◌≡◌, ◌-◌, ◌≤◌, length}
use Rattle.series.proofs.tracks.track_entry.Given as goal

abbrev pub invariant-loop-c : goal.invariant-loop-c
invariant-loop-c l = (l.c ≤ l.calls) × (length l.shifts ≡ length l.initial.shifts)

abbrev pub decreases-loop-c : goal.decreases-loop-c
decreases-loop-c l = l.calls - l.c
