-- `pass::opening` meets its contract: two steps from the start scores (`opened`). Assumes nothing.
use borrow.Author.Rules.{rules}
use Rattle.pass.proofs.Steps.{opened}
use Rattle.pass.proofs.opening.Goals as goal

pub returns : goal.returns
returns c = search (rules, opened)
