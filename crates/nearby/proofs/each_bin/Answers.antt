-- `nearby::each_bin` meets its contract: the bins before 48, and then the others, which are as they were. Assumes nothing.
use Rattle.nearby.proofs.Fill.{each-begun}
use Rattle.nearby.proofs.each_bin.Goals as goal

pub returns : goal.returns
returns g c = λ d next is. (c.onward-2.ensures.more d next is).on _ ((c.onward.ensures.more d next is).on _ (each-begun d next c.args.list.now))
