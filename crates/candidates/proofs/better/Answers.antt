-- `candidates::better` meets its contract, by the cases of what is held. Assumes nothing.
use Rattle.trellis.specs.Search.{beats}
use Rattle.candidates.proofs.better.Goals as goal

pub returns-in-State : goal.returns-in-State
unfolding beats
returns-in-State c = λ d n. simp c.in-State.is
