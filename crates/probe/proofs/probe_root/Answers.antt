-- `probe::probe_root` meets its contract, by the test on n. Assumes nothing.
use mathlib.Core.Path.{sym}
use native.Mathlib.Omega.{arith}
use borrow.Author.Tests.{le-ltb}
use lib.Ieee.{of_bits}
use Rattle.util.proofs.Choose.{not_chosen}
use Rattle.probe.proofs.probe_root.Goals as goal

pub returns-then-n-gt52 : goal.returns-then-n-gt52
unfolding of_bits
returns-then-n-gt52 c = sym (not_chosen _ _ (le-ltb c.args.n 53 (omega arith)))
