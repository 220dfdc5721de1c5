-- `butterfly::row` meets its contract. Assumes nothing.
use Prim.Native.Nat.{ℕ, ◌+◌, ◌*◌, ◌<◌}
use mathlib.Core.Path.{sym, ap, subst}
use native.Mathlib.Omega.{arith}
use lib.Bits.{bit_xor, xor_lt}
use lib.Ieee.{Float, nan}
use lib.ListN.{get_or}
use Rattle.util.proofs.Fill.{row_more}
use Rattle.conv.specs.Label.{label_of}
use Rattle.conv.proofs.Linear.{label-lt}
use Rattle.pass.specs.Areas.{table}
use Rattle.butterfly.proofs.row.Goals as goal
use Rattle.butterfly.proofs.row.Goals.{Start}

-- the label that is looked up is one
inside : (c : Start) (k : ℕ) → k < 16 → bit_xor c.args.b (get_or c.args.evens.now k 0) < 32
inside c k h =
    xor_lt 5 c.args.b (get_or c.args.evens.now k 0) c.requires.2
    (subst (λ (x : ℕ). x < 32) (sym (c.requires.1.at k h)) (label-lt (k * 2)))

pub bounds-metrics-j : goal.bounds-metrics-j
bounds-metrics-j c =
    omega (arith, inside (goal.at.bounds-metrics-j c).Start c.loop-k.k (omega arith))

pub loop-k-preserved : goal.loop-k-preserved
loop-k-preserved c =
    let a = c.args in
    let k = c.loop-k.k in
    let row : ℕ → Float = λ i. table a.metrics.now (a.j * 32 + bit_xor a.b (label_of (i * 2))) in
    let v = table a.metrics.now (a.j * 32 + bit_xor a.b (get_or a.evens.now k 0)) in (
      omega arith,
      row_more nan k (16 * a.b) row a.rows.now c.loop-k.rows v c.loop-k.invariant.1 (omega arith)
          (ap (λ (l : ℕ). table a.metrics.now (a.j * 32 + bit_xor a.b l)) (c.requires.1.at k (omega arith))),
    )
