-- `forms::all_metrics` meets its contract. Assumes nothing.
use Prim.Native.Nat.{ℕ, ◌*◌}
use mathlib.Core.Path.{sym, ◌∙◌}
use native.Mathlib.Omega.{arith}
use lib.Ieee.{Float, nan}
use lib.ListN.{length, get_or}
use Rattle.symbol.proofs.Same.{metric-same}
use Rattle.forms.specs.Inside.{heard}
use Rattle.forms.specs.Burst.{value_of, metric_at, metrics_out}
use Rattle.symbol.specs.Symbol.{metric_out}
use Rattle.util.proofs.Fill.{rows_more, rows_at, tabled-only}
use Rattle.util.specs.Table.{rows}
use Rattle.forms.proofs.all_metrics.Goals as goal

pub loop-i-preserved : goal.loop-i-preserved
loop-i-preserved c =
    let a = c.args in
    let i = c.loop-i.i in
    let x : ℕ → ℕ → Float = value_of (heard a.burst.now) in
    let own = c.values-own in
    let stored = c.put_metrics.ensures in (
      omega arith,
      stored.size ∙ c.loop-i.invariant.1,
      rows_more nan 32 i (rows 32 (λ i. metric_out (x i))) _ _ _ stored
          (λ k h. metric-same (λ v. get_or own.result v nan) (x i) own.ensures.1 k h ∙ sym (rows_at 32 i k (λ i. metric_out (x i)) h))
          c.loop-i.invariant.2,
    )

pub returns : goal.returns
unfolding metrics_out metric_at
returns c =
    let a = c.args in
    let x : ℕ → ℕ → Float = value_of (heard a.burst.now) in
    tabled-only (32 * length a.burst.now.blanked.now) (rows 32 (λ i. metric_out (x i))) nan c.loop-i.out
    (c.loop-i.invariant.1 ∙ c.requires.2) (λ q h. c.loop-i.invariant.2 q (omega arith))
