-- `symbol::log_sums` meets its contract. Assumes nothing.
use mathlib.Core.Path.{refl}
use native.Mathlib.Omega.{arith}
use lib.Ieee.{of_bits, neg, div}
use Rattle.symbol.proofs.Sums.{summed-none}
use Rattle.symbol.specs.Symbol.{log_sum}
use Rattle.symbol.proofs.log_sums.Goals as goal

pub loop-v-init : goal.loop-v-init
unfolding log_sum of_bits neg div
loop-v-init c = (omega arith, summed-none _ _ _ refl)
