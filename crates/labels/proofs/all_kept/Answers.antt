-- `labels::all_kept` meets its contract. Assumes nothing.
use Prim.Native.Nat.{ℕ, suc, ◌+◌, ◌*◌}
use mathlib.Core.Path.{◌≡◌, ap, ◌∙◌}
use native.Mathlib.Omega.{arith}
use Rattle.util.specs.Every.{every}
use Rattle.labels.specs.Labels.{keeps_at, labelled}
use Rattle.labels.proofs.Kept.{power-one, power-next, power-half, power-whole, adds, first-kept}
use Rattle.labels.proofs.all_kept.Goals as goal

pub loop-half-init : goal.loop-half-init
loop-half-init c = (0, power-one, first-kept c.args.table.now)

pub upper_kept-kept-requires : goal.upper_kept-kept-requires
upper_kept-kept-requires c =
    let power = c.loop-half.invariant.1 in
    (c.requires, power-half power c.loop-half-test.true, adds power c.by_parity.ensures, c.loop-half.invariant.2)

pub loop-half-preserved : goal.loop-half-preserved
loop-half-preserved c =
    let twice : c.loop-half.half + c.loop-half.half ≡ c.loop-half.half * 2 = omega arith in (
      suc c.loop-half.invariant.0,
      power-next c.loop-half.invariant.1 c.loop-half-test.true,
      c.upper_kept-kept.ensures ∙ ap (λ (n : ℕ). every n (keeps_at c.args.table.now)) twice,
    )

pub returns : goal.returns
unfolding labelled
returns c =
    let all : c.loop-half.half ≡ 32768 = power-whole c.loop-half.invariant.1 (omega arith) in
    c.loop-half.invariant.2 ∙ ap (λ (n : ℕ). every n (keeps_at c.args.table.now)) all
