-- `call::step` meets its contract: what `tested` answers decides, and an accepted call starts from where it is ready. Assumes nothing.
use Prim.Native.Nat.{ℕ, ◌*◌, ◌<◌}
use mathlib.Core.List.{List}
use mathlib.Core.Path.{◌≡◌, sym, ap, ◌∙◌, subst⁻¹}
use native.Mathlib.Omega.{arith}
use lib.Dec.{leb}
use lib.IntN.{ℤ}
use lib.ListN.{set}
use Rattle.tracker.proofs.Accepted.{Accepted, accepted-says}
use Rattle.call.proofs.Handed.{ready, steps-done}
use Rattle.call.proofs.Words.{back}
use Rattle.fit.specs.Inside.{fitted_in}
use Rattle.tracker.specs.Inside.{answer_in}
use Rattle.call.specs.Inside.{Ready}
use Rattle.tracker.specs.Rule.{in_whole_blocks}
use Rattle.call.specs.Call.{moved}
use Rattle.blocks.specs.declared.Gathered.{Gathered}
use Rattle.tracker.specs.declared.Sample.{Sample}
use Rattle.tracker.specs.declared.Tracker.{Tracker}
use Rattle.util.specs.Refusal.{meaning, accepted}
use Rattle.call.proofs.step.Goals as goal

-- `tested` accepted the call
taken : (mode : ℕ) (t : Tracker) (shifts : List ℤ) (room : ℕ) (g : Gathered) (s : Sample) → answer_in mode t shifts room g s ≡ accepted tt
    → Accepted mode t shifts room s (leb g.top (2 * in_whole_blocks mode t.n)) g.good
taken mode t shifts room g s e = accepted-says mode t shifts room s (leb g.top (2 * in_whole_blocks mode t.n)) g.good e

pub move_on-requires : goal.move_on-requires
move_on-requires c =
    let a = c.args in
    let ok = taken a.mode a.t a.shifts.now a.room a.g.now a.s
    (sym c.tested.ensures ∙ ap meaning c.in_ok-tested.was) in
    let start = ready a.mode a.t a.shifts.now a.room a.s _ _ ok in
    subst⁻¹ (λ (z : ℤ). Ready a.t (set a.shifts.now a.t.n z)) (back a.t.shift (omega (arith, start.shift))) start

pub returns : goal.returns
returns c =
    let a = c.args in
    let e = sym c.tested.ensures ∙ ap meaning c.in_ok-tested.was in
    let ok = taken a.mode a.t a.shifts.now a.room a.g.now a.s e in
    let start = ready a.mode a.t a.shifts.now a.room a.s _ _ ok in
    let same = back a.t.shift (omega (arith, start.shift)) in
    let few : a.t.blocks < a.room = omega (arith, start.count, ok.many) in
    steps-done a.mode a.t a.shifts.now a.room a.g.now a.s c.move_on.result _ e
    (c.move_on.ensures
    ∙ ap (λ (z : ℤ). moved a.mode a.t (set a.shifts.now a.t.n z) a.s (fitted_in a.mode a.g.now a.t.blocks)) same)
    (ap (λ (z : ℤ). set a.shifts.now a.t.n z) same) few
