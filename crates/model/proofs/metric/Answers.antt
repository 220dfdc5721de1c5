-- `model::metric` meets its contract: the code adds the five terms that the definition names. Assumes nothing.
use mathlib.Core.Path.{refl, sym}
use native.Mathlib.Omega.{arith}
use lib.Ieee.{binary32, add, nan, of_bits}
use lib.ListN.{get_or}
use Rattle.ieee.specs.Whole.{plus_zero}
use Rattle.model.proofs.Terms.{five-terms}
use Rattle.model.proofs.metric.Goals as goal

pub returns : goal.returns
unfolding of_bits
returns c =
    let a = c.args in
    sym (five-terms (add binary32) plus_zero (λ i. get_or a.terms.now i nan) a.symbol a.e _ (omega arith) refl)
