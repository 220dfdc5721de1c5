-- `symbol::one_more` meets its contract. Assumes nothing.
use Prim.Native.Nat.{ℕ, ◌+◌, ◌*◌}
use mathlib.Core.Path.{ap, ◌∙◌, subst⁻¹}
use native.Mathlib.Omega.{arith}
use lib.Ieee.{Float, nan}
use lib.ListN.{get_or, set}
use Rattle.symbol.proofs.Sums.{Between, between_more}
use Rattle.lse.specs.Lse.{lse_of}
use Rattle.symbol.proofs.one_more.Goals as goal

pub loop-k-preserved : goal.loop-k-preserved
loop-k-preserved c =
    let a = c.args in
    let l = c.loop-k.sums in
    let k = c.loop-k.k in
    let place = 2 * k + c.bit.result in
    let x : ℕ → Float = λ w. get_or a.values.now (a.base + w) nan in (
      omega arith,
      c.loop-k.invariant.1,
      subst⁻¹ (λ (r : Float). Between a.gray x a.v (k + 1) (set l place r)) (c.lse.ensures ∙ ap (lse_of (get_or l place nan)) c.loop-k.invariant.1)
          (between_more a.gray x a.v k l (omega arith) c.loop-k.invariant.2 place (ap (λ (b : ℕ). 2 * k + b) c.bit.ensures)),
    )
