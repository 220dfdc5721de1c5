-- `symbol::greatest` meets its contract: the fold of the larger is the definition's run. Assumes nothing.
use Rattle.std.proofs.Common.{rules, arith, ◌≡◌, ◌∙◌, ap, get_or, length}
use Rattle.std.proofs.lemmas.Iterator.{YieldsList-from_slice}
use Rattle.std.proofs.lemmas.Iterator.Consumers.{fold_from_yields_List}
use lib.Ieee.{nan}
use Rattle.ieee.specs.Whole.{run}
use Rattle.ieee.specs.Within.{larger}
use Rattle.symbol.specs.Symbol.{greatest_of}
use Rattle.symbol.proofs.Folded.{fold-run}
use Rattle.symbol.proofs.greatest.Goals as goal

pub returns : goal.returns
unfolding greatest_of
returns c =
    let values = c.args.values.now in
    let all : length values ≡ 32 = omega arith in
    fold_from_yields_List _ larger (get_or values 0 nan) _ c.fold.ensures.ran (YieldsList-from_slice values cc) (λ a x b q k. search rules)
    ∙ fold-run larger (get_or values 0 nan) nan values ∙ ap (run larger (get_or values 0 nan) (λ i. get_or values i nan)) all
