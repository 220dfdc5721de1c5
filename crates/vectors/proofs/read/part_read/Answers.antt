-- `vectors::read::part_read` is safe: a header of 48 symbols is lent the first part of each list. Assumes nothing.
use Rattle.std.proofs.Common.{sym, arith, length-take-le}
use Rattle.vectors.proofs.read.part_read.Goals as goal

pub slice_bounds-read-end-2 : goal.slice_bounds-read-end-2
slice_bounds-read-end-2 c = sym (length-take-le _ c.bits_of-bits.result (omega arith))
