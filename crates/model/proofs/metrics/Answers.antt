-- `model::metrics` meets its contract: each value's metric was made by a call at that value. Assumes nothing.
use Rattle.std.proofs.Common.{rules, ◌≡◌, ℕ, get_or}
use Rattle.std.specs.Float.{binary32, nan}
use Rattle.std.specs.Float.Ieee.{add}
use lib.Ieee.{Float}
use Rattle.ieee.specs.Whole.{plus_zero}
use Rattle.ieee.specs.Whole as W
use Rattle.frame.specs.Air.{bin_of, place_of}
use Rattle.model.specs.Metric.{metric_of}
use Rattle.util.proofs.Made.{made}
use Rattle.model.proofs.metrics.Goals as goal

pub returns : goal.returns
unfolding metric_of W.run
returns c =
    let a = c.args in
    let has : ℕ → Float = λ v. metric_of (add binary32) plus_zero (λ i. get_or a.terms.now i nan) a.symbol (place_of (bin_of a.bins a.h v)) in
    (c.from_fn.ensures.items.long, λ v h. made _ _ (λ (k : ℕ) (y : Float). y ≡ has k) _ (λ k y q l e. search rules) c.from_fn.ensures.items v nan h)
