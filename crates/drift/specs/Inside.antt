-- Inside: what a call hands back, over the listed blocks. Only contracts of inside functions cite what is here.
use Rattle.std.specs.Prelude.{◌≡◌, ℕ, ◌<◌, List, ℤ, length, Result, Ok}
use Rattle.util.specs.Refusal.{meaning}
use Rattle.util.specs.declared.refusal.Refusal.{Refusal}
use Rattle.blocks.specs.declared.Block.{Block}
use Rattle.tracker.specs.Rule.{track_answer}
use Rattle.tracker.specs.declared.Sample.{Sample}
use Rattle.tracker.specs.declared.Tracker.{Tracker}
use Rattle.call.specs.Call.{call}
use Rattle.call.specs.Inside.{giving}
use Rattle.call.specs.declared.Moved.{Moved}
use Rattle.drift.specs.Entry.{shifts_after}

-- the same as the public entry, over the listed blocks: the answer with what the call makes, and the shifts at exit
pub record Called (mode : ℕ) (t : Tracker) (shifts : List ℤ) (bs : List Block) (s : Sample) (r : Result Moved Refusal) (last : List ℤ) : Type 0 where
  pub answer : meaning r ≡ giving (track_answer mode t shifts bs s) (call mode t shifts bs s)
  pub stored : last ≡ shifts_after mode t shifts bs s
  pub has_room : (m : Moved) → r ≡ Ok m → t.blocks < length bs
