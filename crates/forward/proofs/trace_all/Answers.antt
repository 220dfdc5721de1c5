-- `forward::trace_all` meets its contract. Assumes nothing.
use Prim.Native.Nat.{◌+◌}
use mathlib.Core.Path.{◌≡◌, refl}
use native.Mathlib.Omega.{arith}
use Rattle.trellis.specs.Search.{trace_start}
use Rattle.forward.proofs.Parts.{starts_more}
use Rattle.forward.proofs.trace_all.Goals as goal

pub loop-j-init : goal.loop-j-init
unfolding trace_start
loop-j-init c =
    let made = c.itself.ensures in
    (omega arith, refl, c.requires.1, record { size = made.0; at = made.1 })

pub loop-j-preserved : goal.loop-j-preserved
loop-j-preserved c =
    let d = c.args.decisions.now in
    let j = c.loop-j.j in
    let inv = c.loop-j.invariant in
    let more : j + 2 ≡ j + 1 + 1 = omega arith in (
      omega arith,
      omega arith,
      c.follow.ensures.size,
      rw more (starts_more d (j + 1) _ _ (starts_more d j _ _ inv.3 c.follow.ensures) c.follow-in-loop-j.ensures),
    )

-- the last turn, after which no two steps are left
pub returns-2 : goal.returns-2
returns-2 c =
    let d = c.args.decisions.now in
    let j = c.loop-j.j in
    let inv = c.loop-j.invariant in
    let last : j + 1 + 1 ≡ c.args.steps = omega arith in
    rw last at (starts_more d (j + 1) _ _ (starts_more d j _ _ inv.3 c.follow.ensures) c.follow-in-loop-j.ensures)
