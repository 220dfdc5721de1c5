-- `nearby::LastRows::sums` meets its contract. Assumes nothing.
use Rattle.nearby.proofs.Rows.{summed-none, summed-more, with-held}
use Rattle.nearby.specs.Sum.{with_next}
use Rattle.nearby.specs.Inside.{placed}
use Rattle.std.proofs.Common.{rules}
use lib.Ieee.{nan, of_bits}
use mathlib.Core.Path.{◌∙◌}
use Prim.Native.Nat.{◌+◌, ◌*◌, ◌%◌}
use native.Mathlib.Omega.{arith}
use Rattle.nearby.proofs.LastRows.sums.Goals as goal

pub loop-k-init : goal.loop-k-init
unfolding of_bits
loop-k-init c = (omega arith, summed-none _ _ _)

pub loop-k-preserved : goal.loop-k-preserved
loop-k-preserved c =
    let a = c.args in
    let k = c.loop-k.k in (
      omega arith,
      summed-more a.self.now.marks a.self.now.values a.first k c.loop-k.out _ c.loop-k.invariant.1
          (c.each_bin.ensures nan (λ b s. with_next s (placed a.self.now.marks a.self.now.values (a.first + k) b))
          (λ b s r e. (search rules) ∙ with-held a.self.now.marks a.self.now.values (52 * ((a.first + k) % 25)) b s)),
    )
