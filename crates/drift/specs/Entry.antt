-- Document 01, 'Drift': the public entry. The tracker and both lists at exit, refusals included.
use Rattle.std.specs.Prelude.{ℕ, List, ℤ}
use Rattle.util.specs.Refusal.{afterwards}
use Rattle.blocks.specs.declared.Block.{Block}
use Rattle.tracker.specs.Rule.{track_answer}
use Rattle.tracker.specs.declared.Tracker.{Tracker}
use Rattle.tracker.specs.declared.Sample.{Sample}
use Rattle.call.specs.Call.{stored_of, call, pushed_onto}

abbrev pub tracker_after : ℕ → Tracker → List ℤ → List Block → Sample → Tracker
tracker_after mode t shifts blocks s = afterwards (track_answer mode t shifts blocks s) t (call mode t shifts blocks s).tracker

abbrev pub shifts_after : ℕ → Tracker → List ℤ → List Block → Sample → List ℤ
shifts_after mode t shifts blocks s = afterwards (track_answer mode t shifts blocks s) shifts (stored_of t shifts)

abbrev pub blocks_after : ℕ → Tracker → List ℤ → List Block → Sample → List Block
blocks_after mode t shifts blocks s = afterwards (track_answer mode t shifts blocks s) blocks (pushed_onto t blocks (call mode t shifts blocks s))
