-- `vectors::tables::answer` is safe: a header of 48 symbols is lent the first part of each list. Assumes nothing.
use Rattle.std.proofs.Common.{sym, arith, length-take-le}
use Rattle.vectors.proofs.tables.answer.Goals as goal

pub slice_bounds-replayed-end-2 : goal.slice_bounds-replayed-end-2
slice_bounds-replayed-end-2 c = sym (length-take-le _ c.bits_of-bits.result (omega arith))
