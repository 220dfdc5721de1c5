-- `interleave::metric` meets its contract. Assumes nothing.
use native.Mathlib.Omega.{arith}
use lib.Bits.{xor_lt}
use Rattle.interleave.proofs.metric.Goals as goal

pub bounds-slots-s : goal.bounds-slots-s
bounds-slots-s c = omega (arith, xor_lt 5 c.args.c c.args.r (omega arith) (omega arith))
