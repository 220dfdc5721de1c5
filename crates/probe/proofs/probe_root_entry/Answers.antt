-- `probe::probe_root_entry` meets its contract, by the test on k. Assumes nothing.
use mathlib.Core.Path.{sym}
use native.Mathlib.Omega.{arith}
use borrow.Author.Tests.{le-ltb}
use lib.Ieee.{of_bits}
use Rattle.util.proofs.Choose.{not_chosen}
use Rattle.probe.proofs.probe_root_entry.Goals as goal

pub returns-then-k-gt51 : goal.returns-then-k-gt51
unfolding of_bits
returns-then-k-gt51 c = sym (not_chosen _ _ (le-ltb c.args.k 52 (omega arith)))
