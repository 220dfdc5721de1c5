-- Each turn of the fold looks at one shift more. Assumes nothing.
use Rattle.std.proofs.Common.{arith, rules, refl, length, ap, ◌∙◌, ◌≡◌, subst, List, [], ◌∷◌, ◌++◌, Bool, ◌&&◌, ℤ, pos}
use Rattle.std.proofs.lemmas.Fn.{fold_over, slice_gives, fronts}
use lib.ListN.{get_or}
use Rattle.util.specs.Every.{every}
use Rattle.tracker.specs.Rule.{shift_kept}
use Rattle.tracker.proofs.Shifts.{one_more, of_first}
use Rattle.tracker.proofs.stored_kept.Goals as goal

pub returns : goal.returns
unfolding every
returns c =
    subst (λ (l : List ℤ). c.fold.result ≡ every (length l) (λ i. shift_kept (get_or l i (pos 0)))) c.iter.ensures.rest
    (fold_over fronts (λ y. y.now) _ (λ ys kept. kept ≡ every (length ys) (λ i. shift_kept (get_or ys i (pos 0)))) _
    (λ ys kept z b f' so k.
    let next : b ≡ kept && shift_kept z.now → b ≡ every (length (ys ++ (z.now ∷ []))) (λ i. shift_kept (get_or (ys ++ (z.now ∷ [])) i (pos 0))) =
    λ is. is ∙ ap (λ (t : Bool). t && shift_kept z.now) so ∙ one_more shift_kept (pos 0) ys z.now in
    search (next, rules)) c.iter.result c.iter.result.rest.now _ _ (slice_gives _) refl c.fold.ensures.ran)
    ∙ of_first shift_kept (pos 0) c.args.n c.args.shifts.now (omega arith)
