-- `noise::median_errors` meets its contract: the table's entry for m is its root. Assumes nothing.
use Rattle.root_table.proofs.Entries.{entry}
use lib.Ieee.{binary32, div, of_bits}
use Rattle.level.specs.Level.{three}
use mathlib.Core.Path.{ap}
use Rattle.noise.proofs.median_errors.Goals as goal

pub returns : goal.returns
unfolding of_bits
returns c =
    ap (div binary32 three) (entry c.roots-roots.result c.args.m c.roots-roots.ensures.worked_out c.requires.0 c.requires.1)
