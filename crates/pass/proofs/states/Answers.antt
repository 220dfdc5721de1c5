-- `pass::states` meets its contract. Assumes nothing.
use Prim.Native.Nat.{ℕ, ◌+◌, ◌*◌, ◌-◌}
use mathlib.Core.Path.{◌≡◌, sym, ap, ◌∙◌}
use native.Mathlib.Omega.{arith}
use lib.Bits.{bit_xor}
use lib.Ieee.{nan}
use lib.ListN.{length-set}
use Rattle.pass.proofs.Bits.{flags-more, longer}
use Rattle.conv.proofs.Linear.{label-upper}
use Rattle.util.proofs.Fill.{down-done, down-kept}
use Rattle.pass.proofs.Steps.{score-is, decision-is}
use Rattle.pass.specs.Areas.{table, over}
use Rattle.trellis.specs.Search.{upper, step}
use Rattle.pass.proofs.states.Goals as goal

pub path_metric-b-requires-clause-in_range : goal.path_metric-b-requires-clause-in_range
path_metric-b-requires-clause-in_range c =
    let i = c.loop-k.k - 1 in
    let upper = ap (λ (l : ℕ). bit_xor l 31) (c.loop-k.invariant.6.at i (omega arith)) ∙ sym (label-upper (c.args.w * 64 + i) (omega arith)) in
    (c.requires.in_range.0, c.requires.in_range.1, omega arith, upper)

pub loop-k-preserved : goal.loop-k-preserved
loop-k-preserved c =
    let a = c.args in
    let inv = c.loop-k.invariant in
    let k = c.loop-k.k in
    let i = a.w * 64 + (k - 1) in
    let X = over a.metrics.now in
    let f = table a.scores.now in
    let ea = c.path_metric-a.ensures in
    let eb = c.path_metric-b.ensures in
    let more : 64 - (k - 1) ≡ 64 - k + 1 = omega arith in
    let above : a.w * 64 + k ≡ i + 1 = omega arith in (
      omega arith,
      length-set c.loop-k.next i c.greater.result ∙ inv.1,
      down-done c.loop-k.next i c.greater.result nan (step X f a.j) (a.w * 64 + 64) (omega arith)
          (score-is a.metrics.now f a.j i ea eb c.greater.ensures) (λ s h below. inv.2 s (omega arith) below),
      down-kept c.loop-k.next i c.greater.result nan a.next.now (λ s h. inv.3 s (omega arith)),
      longer (64 - k) (64 - (k - 1)) (omega arith) inv.4 c.decision.ensures.1,
      (λ n h. flags-more (upper X f a.j) i (64 - k) c.loop-k.word c.decision.result
          (decision-is a.metrics.now f a.j i ea eb c.decision.ensures.0) c.decision.ensures.1
          (λ m l. inv.5 m l ∙ ap (λ (x : ℕ). upper X f a.j (x + m)) above) n (omega arith)),
      inv.6,
    )

pub returns : goal.returns
returns c =
    let inv = c.loop-k.invariant in
    let a = c.args in
    let end : a.w * 64 + c.loop-k.k ≡ a.w * 64 = omega arith in
    record {
      size = inv.1;
      done = λ s h below. inv.2 s (omega arith) below;
      below = λ s h. inv.3 s (omega arith);
      flags = λ i h. inv.5 i (omega arith) ∙ ap (λ (x : ℕ). upper (over a.metrics.now) (table a.scores.now) a.j (x + i)) end;
    }
