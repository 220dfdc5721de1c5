-- What a call hands back is the entry's (proofs/Called); the tracker and the block are stored where the call is done. Assumes nothing.
use Rattle.std.proofs.Common.{rules, ◌≡◌}
use Rattle.util.specs.Refusal.{meaning, refused, number_of}
use Rattle.call.specs.Call.{put_at}
use Rattle.drift.proofs.Called.{left-refused, left-done}
use Rattle.drift.proofs.track_timing.Goals as goal

pub returns-in_err-made : goal.returns-in_err-made
returns-in_err-made c =
    let a = c.args in
    let told : meaning c.from_residual.result ≡ refused (number_of c.in_err-made.field-0.0) = search rules in
    left-refused a.mode a.tracker.now a.shifts.now a.blocks.now a.sample c.call_over.result c.call_over.new.shifts c.call_over.ensures
    c.in_err-made.field-0.0 c.in_err-made.was c.from_residual.result told

pub returns : goal.returns
returns c =
    let a = c.args in
    let put : c.match-made.blocks ≡ put_at a.blocks.now a.tracker.now.blocks c.in_ok-made.made.pushed = search rules in
    left-done a.mode a.tracker.now a.shifts.now a.blocks.now a.sample c.call_over.result c.call_over.new.shifts c.call_over.ensures
    c.in_ok-made.made c.in_ok-made.was _ put
