-- A call of the tracker over blocks whose fields lie in two lists, as C lends them (crate `blocks`, specs/Lists).
use Rattle.std.specs.Prelude.{ℕ, List, ◌≡◌, ℤ, Float}
use Rattle.util.specs.Refusal.{Outcome, afterwards}
use Rattle.blocks.specs.Lists.{blocks_of, places_of, timings_of, over_lists}
use Rattle.tracker.specs.Rule.{track_answer}
use Rattle.call.specs.Call.{call, stored_of, pushed_onto}
use Rattle.tracker.specs.declared.Sample.{Sample}
use Rattle.tracker.specs.declared.Tracker.{Tracker}

-- its answer
abbrev pub track_over : ℕ → Tracker → List ℤ → List ℕ → List Float → Sample → Outcome Unit
track_over mode t shifts places timings s = over_lists mode places timings (track_answer mode t shifts (blocks_of places timings) s)

-- tracker, shifts and both lists at exit: as they were on a refusal, else what the call makes of them
pub record LentAfter (mode : ℕ) (t : Tracker) (shifts : List ℤ) (places : List ℕ) (timings : List Float) (s : Sample)
    (t' : Tracker) (shifts' : List ℤ) (places' : List ℕ) (timings' : List Float) : Type 0 where
  pub of-tracker : t' ≡ afterwards (track_over mode t shifts places timings s) t (call mode t shifts (blocks_of places timings) s).tracker
  pub of-shifts : shifts' ≡ afterwards (track_over mode t shifts places timings s) shifts (stored_of t shifts)
  pub of_places : places' ≡ afterwards (track_over mode t shifts places timings s) places
      (places_of (pushed_onto t (blocks_of places timings) (call mode t shifts (blocks_of places timings) s)))
  pub of-timings : timings' ≡ afterwards (track_over mode t shifts places timings s) timings
      (timings_of (pushed_onto t (blocks_of places timings) (call mode t shifts (blocks_of places timings) s)))
