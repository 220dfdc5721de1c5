-- The fit over what is gathered is the fit over the blocks, all of which are read where there are no more than 64. Assumes nothing.
use Rattle.std.proofs.Common.{◌∙◌, ap, subst, ℕ, ◌≡◌, ◌≤◌, length, leb, ◌&&◌}
use Rattle.util.specs.Refusal.{outcome}
use Rattle.frame.specs.Format.{format_of}
use Rattle.blocks.specs.Inside.{places_in, timings_in}
use Rattle.fit.specs.Fit.{fit_of, fit_causes}
use Rattle.fit.proofs.Same.{fit-agrees}
use Rattle.fit.proofs.fit_listed.Goals as goal

pub returns : goal.returns
returns g c =
    let bs = g.B.Blocks.listed c.args.blocks.now in
    let all : length bs ≤ 64 → c.counted.result ≡ length bs =
    subst (λ (n : ℕ). n ≤ 64 → c.counted.result ≡ n) c.count-n.ensures c.counted.ensures.2 in
    c.fit_gathered.ensures
    ∙ ap (λ (n : ℕ). outcome (fit_causes c.args.mode (leb n 64 && c.gather-g.result.good))
    (fit_of (format_of c.args.mode).symbol n (places_in c.gather-g.result.points) (timings_in c.gather-g.result.points))) c.count-n.ensures
    ∙ fit-agrees c.args.mode bs c.counted.result c.gather-g.result all c.gather-g.ensures
