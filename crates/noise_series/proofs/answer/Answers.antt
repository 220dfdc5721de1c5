-- `noise_series::answer` is safe: the lists hold 2,049 rows and a value more. Assumes nothing.
use Rattle.std.proofs.Common.{sym, arith, length-take-le}
use Rattle.noise_series.proofs.answer.Goals as goal

pub slice_bounds-replayed-end : goal.slice_bounds-replayed-end
slice_bounds-replayed-end c = sym (length-take-le _ _ (omega arith))

pub slice_bounds-replayed-end-3 : goal.slice_bounds-replayed-end-3
slice_bounds-replayed-end-3 c = sym (length-take-le _ _ (omega arith))
