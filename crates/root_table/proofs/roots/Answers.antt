-- `root_table::roots` meets its contract: the test of all 52 entries is computed here. Assumes nothing.
use mathlib.Core.Path.{refl}
use lib.Ieee.{fits, of_bits}
use Rattle.root.proofs.Nearest.{up_to}
use Rattle.root_table.proofs.Entries.{all-nearest, worked-out}
use Rattle.root_table.proofs.roots.Goals as goal

pub returns-clause-nearest : goal.returns-clause-nearest
unfolding up_to fits of_bits
returns-clause-nearest c =
    let near = all-nearest _ refl tt in
    near

pub returns-clause-worked_out : goal.returns-clause-worked_out
unfolding up_to fits of_bits
returns-clause-worked_out c =
    let near = all-nearest _ refl tt in
    worked-out _ near
