-- `level::level` meets its contract, by those of its calls. Assumes nothing.
use Rattle.level.specs.Level.{ln2, level_from}
use lib.Ieee.{Float, of_bits}
use mathlib.Core.Path.{ap, ◌∙◌}
use Rattle.level.proofs.level.Goals as goal

pub returns : goal.returns
unfolding level_from ln2 of_bits
returns c =
    let less = c.args.less in
    c.larger.ensures ∙ ap (λ (x : Float). level_from x less) c.of_rank.ensures
