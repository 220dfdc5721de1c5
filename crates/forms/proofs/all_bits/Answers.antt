-- `forms::all_bits` meets its contract. Assumes nothing.
use Prim.Native.Nat.{ℕ}
use mathlib.Core.Bool.{true}
use mathlib.Core.Path.{sym, ◌∙◌}
use native.Mathlib.Omega.{arith}
use lib.Ieee.{Float, nan}
use lib.ListN.{get_or}
use Rattle.symbol.proofs.Same.{soft-same}
use Rattle.forms.specs.Inside.{heard}
use Rattle.forms.specs.Burst.{value_of}
use Rattle.symbol.specs.Symbol.{soft_bit}
use Rattle.util.proofs.Fill.{rows_more, rows_at}
use Rattle.util.specs.Table.{rows}
use Rattle.forms.proofs.all_bits.Goals as goal

pub loop-i-preserved : goal.loop-i-preserved
loop-i-preserved c =
    let a = c.args in
    let i = c.loop-i.i in
    let x : ℕ → ℕ → Float = value_of (heard a.burst.now) in
    let own = c.values-own in
    let stored = c.put_bits.ensures in (
      omega arith,
      stored.size ∙ c.loop-i.invariant.1,
      rows_more nan 5 i (rows 5 (λ i k. soft_bit true k (x i))) _ _ _ stored
          (λ k h. soft-same (λ v. get_or own.result v nan) (x i) own.ensures.1 true k ∙ sym (rows_at 5 i k (λ i k. soft_bit true k (x i)) h))
          c.loop-i.invariant.2,
    )
