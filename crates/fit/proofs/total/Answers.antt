-- Each turn of the fold adds one point's term. Assumes nothing.
use Rattle.std.proofs.Common.{rules, refl, length, ap, ◌∙◌, ◌≡◌, subst, List, [], ◌∷◌, ◌++◌}
use Rattle.std.proofs.lemmas.Fn.{fold_over, slice_gives, fronts, says_at}
use Rattle.std.specs.Fn.{FnReturnsAt}
use lib.Ieee.{Float, of_bits}
use lib.ListN.{get_or}
use Rattle.ieee.specs.Whole.{run}
use Rattle.blocks.specs.Doubles.{◌⊕◌}
use Rattle.blocks.specs.Inside.{origin}
use Rattle.blocks.specs.declared.Point.{Point}
use Rattle.fit.specs.Fit.{sum_of}
use Rattle.fit.proofs.Sums.{one_more}
use Rattle.fit.proofs.total.Goals as goal

pub returns : goal.returns
unfolding of_bits run
returns g c = λ x gives.
    subst (λ (l : List Point). c.fold.result ≡ sum_of (λ i. x (get_or l i origin)) (length l)) c.iter.ensures.rest
    (fold_over fronts (λ y. y.now) _ (λ ys a. a ≡ sum_of (λ i. x (get_or ys i origin)) (length ys)) _
    (λ ys a p b f' so k.
    let next : (r : Float) → FnReturnsAt g.F.Fn c.args.term p.now r → b ≡ a ⊕ r
    → b ≡ sum_of (λ i. x (get_or (ys ++ (p.now ∷ [])) i origin)) (length (ys ++ (p.now ∷ []))) =
    λ r e is. is ∙ ap (λ (y : Float). a ⊕ y) (gives p.now r e) ∙ one_more x ys p.now a so in
    search (next, says_at, rules)) c.iter.result c.iter.result.rest.now _ _ (slice_gives _) refl c.fold.ensures.ran)
