-- `fit::fit_points` meets its contract: each return by the test that led there. Assumes nothing.
use Rattle.std.proofs.Common.{rules}
use borrow.Author.Tests.{lt-ltb, le-ltb}
use lib.Ieee.{of_bits}
use Rattle.fit.specs.Fit.{fit_of}
use Rattle.fit.proofs.fit_points.Goals as goal

pub returns-then-n-lt6 : goal.returns-then-n-lt6
unfolding fit_of of_bits
returns-then-n-lt6 c = simp (lt-ltb _ _ c.if-n-lt6.true)

pub returns : goal.returns
unfolding fit_of
returns c =
    let many = le-ltb _ _ c.if-n-lt6.false in
    let places = c.total.ensures (λ p. p.place) (λ p r e. search rules) in
    let timings = c.total-2.ensures (λ p. p.timing) (λ p r e. search rules) in
    simp (many, c.fit_about.ensures, places, timings)
