-- `util::wrapping_mul_u64` meets its contract: no product of halves wraps, and `product` joins them. Assumes nothing.
use Rattle.util.proofs.Halves.{product}
use Rattle.util.proofs.wrapping_mul_u64.Goals as goal

pub returns : goal.returns
returns c = record { wraps = product 4294967296 c.args.a c.args.b }
