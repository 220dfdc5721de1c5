-- `butterfly::rows` meets its contract. Assumes nothing.
use Prim.Native.Nat.{ℕ, ◌+◌, ◌*◌}
use mathlib.Core.Path.{sym, ◌∙◌}
use native.Mathlib.Omega.{arith}
use lib.Bits.{bit_xor}
use lib.Ieee.{Float, nan}
use Rattle.util.specs.Table as Table
use Rattle.util.proofs.Fill.{rows_more, rows_at}
use Rattle.conv.specs.Label.{label_of}
use Rattle.pass.specs.Areas.{table}
use Rattle.butterfly.proofs.rows.Goals as goal

pub loop-b-preserved : goal.loop-b-preserved
loop-b-preserved c =
    let a = c.args in
    let f : ℕ → ℕ → Float = λ b k. table a.metrics.now (a.j * 32 + bit_xor b (label_of (k * 2))) in
    let b = c.loop-b.b in
    let new = c.row.ensures in (
      omega arith,
      new.size ∙ c.loop-b.invariant.1,
      rows_more nan 16 b (Table.rows 16 f) (f b) _ _ new (λ k h. sym (rows_at 16 b k f h)) c.loop-b.invariant.2,
    )

pub returns : goal.returns
returns c =
    let a = c.args in
    record {
      at = λ b k hb hk.
          c.loop-b.invariant.2 (16 * b + k) (omega arith) ∙ rows_at 16 b k (λ b k. table a.metrics.now (a.j * 32 + bit_xor b (label_of (k * 2)))) hk;
    }
