-- `series::tracks::track_face` is safe and ends. The invariant: the lists keep their lengths. The measure is what is left of the calls. Assumes nothing.
use Rattle.std.proofs.Common.{◌≡◌, ◌-◌, ◌≤◌, length}
use Rattle.series.proofs.tracks.track_face.Given as goal

abbrev pub invariant-loop-c : goal.invariant-loop-c
invariant-loop-c l = (l.c ≤ l.calls) × (length l.shifts ≡ length l.initial.shifts) × (length l.places ≡ length l.initial.places) × (length l.timings ≡ length l.initial.timings)

abbrev pub decreases-loop-c : goal.decreases-loop-c
decreases-loop-c l = l.calls - l.c
