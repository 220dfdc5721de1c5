-- The tracker's face to C: a number (`number` of util's Refusal), and what a call leaves in all that is lent.
use Rattle.std.specs.Prelude.{ℕ, List, ◌≡◌, eqb, ℤ, Float}
use Rattle.util.specs.Choose.{choose}
use Rattle.util.specs.Refusal.{number}
use Rattle.tracker.specs.declared.Tracker.{Tracker}
use Rattle.tracker.specs.declared.Sample.{Sample}
use Rattle.tracker.specs.declared.Sample.TheVariants.{Heard, Missed}
use Rattle.timing_face.specs.Lists.{track_over, LentAfter}

-- a tracker by its fields, each a place of its own
abbrev pub tracker_of : ℕ → ℤ → Float → Float → Float → ℕ → Tracker
tracker_of n shift tnum tden drift blocks = record { n = n; shift = shift; tnum = tnum; tden = tden; drift = drift; blocks = blocks }

-- a sample: heard 0 is Missed, and the doubles are not looked at
abbrev pub sample_of : ℕ → Float → Float → Float → Sample
sample_of heard early late noise = choose (eqb heard 0) Missed (Heard early late noise)

-- the number, and tracker, shifts and both lists at exit
pub record TrackFace (mode : ℕ) (t : Tracker) (shifts : List ℤ) (places : List ℕ) (timings : List Float) (s : Sample)
    (r : ℕ) (t' : Tracker) (shifts' : List ℤ) (places' : List ℕ) (timings' : List Float) : Type 0 where
  pub answer : r ≡ number (track_over mode t shifts places timings s)
  pub lent : LentAfter mode t shifts places timings s t' shifts' places' timings'
