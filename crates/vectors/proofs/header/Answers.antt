-- `vectors::header` is safe: a part of eight slots lies in the header's 48 or 64. Assumes nothing.
use Rattle.std.proofs.Common.{sym, arith, length-take-le}
use Rattle.vectors.proofs.header.Goals as goal

pub slice_bounds-sent-end-then-at-lt48 : goal.slice_bounds-sent-end-then-at-lt48
slice_bounds-sent-end-then-at-lt48 c = sym (length-take-le _ c.bits_of-bits.result (omega arith))
