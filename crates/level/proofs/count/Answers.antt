-- `level::count` meets its contract. Assumes nothing.
use Prim.Native.Nat.{◌+◌}
use Rattle.level.proofs.Turns.{counted-more}
use Rattle.level.specs.Rank.{once, count_of}
use lib.Dec.{eqb}
use lib.ListN.{get_or}
use mathlib.Core.Bool.{Bool, ◌&&◌}
use mathlib.Core.Path.{refl, ap, ◌∙◌}
use native.Mathlib.Omega.{arith}
use Rattle.level.proofs.count.Goals as goal

pub loop-b-init : goal.loop-b-init
unfolding count_of
loop-b-init g c = (omega arith, omega arith, λ test k. refl)

pub loop-b-preserved : goal.loop-b-preserved
loop-b-preserved g c =
    let a = c.args in
    let b = c.loop-b.b in
    let here : Bool = eqb (get_or a.bins.now.marks.now (a.bins.now.base + b) 0) 1 in (
      omega arith,
      omega (arith, c.counted-n.ensures.small),
      λ test k. counted-more test a.bins.now.marks.now a.bins.now.values.now a.bins.now.base b _ _ (c.loop-b.invariant.2 test k)
          (c.counted-n.ensures.answer ∙ ap (λ (t : Bool). once (here && t)) (k _ _ c.passes.ensures)),
    )
