-- `forms::plain_bits` meets its contract. Assumes nothing.
use Prim.Native.Nat.{ℕ, ◌+◌, ◌-◌, ◌/◌, ◌%◌}
use mathlib.Core.Bool.{false}
use mathlib.Core.Path.{◌≡◌, ◌∙◌, subst⁻¹}
use native.Mathlib.Omega.{arith}
use lib.Ieee.{Float, nan}
use lib.ListN.{length, length-set}
use Rattle.symbol.proofs.Sums.{soft-of}
use Rattle.symbol.specs.Symbol.{soft_bit}
use Rattle.symbol.specs.Sums.{Summed}
use Rattle.util.proofs.Fill.{up_done, tabled-only}
use Rattle.util.specs.Table.{rows}
use Rattle.forms.proofs.plain_bits.Invariants.{of-symbol}
use Rattle.forms.proofs.plain_bits.Goals as goal
use Rattle.forms.proofs.plain_bits.Goals.{then-p-eq0, else-p-eq0}

pub loop-p-preserved : goal.loop-p-preserved
unfolding rows
loop-p-preserved c =
    let a = c.args in
    let p = c.loop-p.p in
    let row : ℕ → ℕ → Float = λ i k. soft_bit false (4 - k) (of-symbol a.metrics.now i) in
    let own : Summed false (of-symbol a.metrics.now (p / 5)) 32 c.if-p-eq0.sums =
    elim c.if-p-eq0.branch [
      | then-p-eq0 w ↦ subst⁻¹ (Summed false (of-symbol a.metrics.now (p / 5)) 32) w.sums-is w.log_sums-sums.ensures
      | else-p-eq0 w ↦ subst⁻¹ (Summed false (of-symbol a.metrics.now (p / 5)) 32) w.sums-is (c.loop-p.invariant.3 w.if-p-eq0.false)
    ] in (
      omega arith,
      length-set c.loop-p.soft p c.soft_bit.result ∙ c.loop-p.invariant.1,
      up_done c.loop-p.soft p c.soft_bit.result nan (rows 5 row) (omega arith)
          (c.soft_bit.ensures ∙ soft-of false (of-symbol a.metrics.now (p / 5)) _ (4 - p % 5) (omega arith) own) c.loop-p.invariant.2,
      λ e. let same : (p + 1) / 5 ≡ p / 5 = omega (arith, e) in
          subst⁻¹ (λ (i : ℕ). Summed false (of-symbol a.metrics.now i) 32 c.if-p-eq0.sums) same own,
    )

pub returns : goal.returns
returns c =
    let a = c.args in
    let row : ℕ → ℕ → Float = λ i k. soft_bit false (4 - k) (of-symbol a.metrics.now i) in
    tabled-only (length a.soft.now) (rows 5 row) nan c.loop-p.soft c.loop-p.invariant.1 (λ i h. c.loop-p.invariant.2 i (omega arith))
