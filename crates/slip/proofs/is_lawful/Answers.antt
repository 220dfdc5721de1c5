-- `slip::is_lawful` meets its contract: each return by the tests that led there. Assumes nothing.
use Rattle.std.proofs.Common.{rules}
use Rattle.slip.specs.Lawful.{lawful}
use Rattle.slip.proofs.is_lawful.Goals as goal

pub returns-then-pass_goes : goal.returns-then-pass_goes
unfolding lawful
returns-then-pass_goes c = search rules

pub returns-else-pass_goes : goal.returns-else-pass_goes
unfolding lawful
returns-else-pass_goes c = search rules
