-- `timing_face::track_over` meets its contract: one call over the blocks of two lists, whose block is put. Assumes nothing.
use Rattle.std.proofs.Common.{rules, arith, ◌≡◌, ◌<◌, length, subst, ℕ}
use Rattle.util.specs.Refusal.{meaning, refused, number_of}
use Rattle.blocks.specs.declared.Block.{Block}
use Rattle.blocks.proofs.Lists.{blocks-length}
use Rattle.timing_face.proofs.Lists.{put_field, lists-refused, lists-done}
use Rattle.timing_face.proofs.track_over.Goals as goal

pub returns-in_err-made : goal.returns-in_err-made
returns-in_err-made c =
    let a = c.args in
    let told : meaning c.from_residual.result ≡ refused (number_of c.in_err-made.field-0.0) = search rules in
    let both = lists-refused a.mode a.tracker.now a.shifts.now a.places.now a.timings.now a.s c.if-timings-places.false c.call_over.result
    c.call_over.new.shifts c.call_over.ensures c.in_err-made.field-0.0 c.in_err-made.was c.from_residual.result told in
    record { answer = both.0; lent = both.1 }

pub bounds-places-tracker : goal.bounds-places-tracker
bounds-places-tracker c =
    let a = c.args in
    subst (λ (n : ℕ). a.tracker.now.blocks < n) (blocks-length a.places.now a.timings.now c.if-timings-places.false)
    (c.call_over.ensures.has_room c.in_ok-made.made c.in_ok-made.was)

pub bounds-timings-tracker : goal.bounds-timings-tracker
bounds-timings-tracker c =
    let a = c.args in
    let few : a.tracker.now.blocks < length a.places.now =
    subst (λ (n : ℕ). a.tracker.now.blocks < n) (blocks-length a.places.now a.timings.now c.if-timings-places.false)
    (c.call_over.ensures.has_room c.in_ok-made.made c.in_ok-made.was) in
    omega (arith, few, c.if-timings-places.false)

pub returns : goal.returns
returns c =
    let a = c.args in
    let places : c.match-made.places ≡ put_field (λ (b : Block). b.place2) a.places.now a.tracker.now.blocks c.in_ok-made.made.pushed = search rules in
    let timings : c.match-made.timings ≡ put_field (λ (b : Block). b.timing) a.timings.now a.tracker.now.blocks c.in_ok-made.made.pushed = search rules in
    let both = lists-done a.mode a.tracker.now a.shifts.now a.places.now a.timings.now a.s c.if-timings-places.false c.call_over.result
    c.call_over.new.shifts c.call_over.ensures c.in_ok-made.made c.in_ok-made.was _ _ places timings in
    record { answer = both.0; lent = both.1 }
