-- `burst_file::format::put_terms` meets its contract. Assumes nothing.
use Prim.Native.Nat.{◌*◌}
use mathlib.Core.Path.{◌∙◌, ap}
use native.Mathlib.Omega.{arith}
use lib.Ieee.{nan, binary32, of_bits}
use Rattle.util.proofs.Fill.{row_more}
use Rattle.burst_file.specs.Numbers.{float_at}
use Rattle.burst_file.proofs.format.put_terms.Goals as goal

pub loop-i-preserved : goal.loop-i-preserved
unfolding float_at
loop-i-preserved c =
    let a = c.args in
    let now = c.loop-i in (
      omega arith,
      row_more nan now.i a.at (λ k. float_at a.bytes.now (4 * k)) a.terms.now now.terms
          c.float_of.result now.invariant.1 (omega arith) (c.float_of.ensures ∙ ap (of_bits binary32) c.word_at.ensures),
    )
