-- `candidates::pick` meets its contract. Assumes nothing.
use mathlib.Core.Option.{Option}
use mathlib.Core.Path.{refl, ap, ◌∙◌}
use native.Mathlib.Numerals.{add-one}
use native.Mathlib.Omega.{arith}
use lib.Ieee.{Float, sub, binary32}
use Rattle.pass.specs.Areas.{table, packed}
use Rattle.candidates.specs.Scan.{considered, scanned}
use Rattle.trellis.specs.Search.{Candidate}
use Rattle.candidates.proofs.pick.Goals as goal

pub loop-s-init : goal.loop-s-init
unfolding scanned
loop-s-init c = (omega arith, tt, (λ d n known. refl))

pub loop-s-preserved : goal.loop-s-preserved
unfolding scanned
loop-s-preserved c =
    let a = c.args in
    let s = c.loop-s.s in
    let gain = sub binary32 (table a.scores.now s) (table a.start.now s) in (
      omega arith,
      c.consider-held.ensures.inside,
      (λ d n known. rw add-one (c.consider-held.ensures.by_index d n known
          ∙ ap (λ (b : Option (Candidate Float)). considered (packed d) n b gain s) (c.loop-s.invariant.2 d n known))),
    )
