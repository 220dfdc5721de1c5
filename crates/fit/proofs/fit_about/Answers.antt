-- Each sum by its term, and each return by the test that led there. Assumes nothing.
use Rattle.std.proofs.Common.{rules}
use mathlib.Core.Path.{sym, ap, ◌∙◌}
use lib.Ieee.{Float, le, of_bits}
use Rattle.ieee.specs.Whole.{plus_zero}
use Rattle.blocks.specs.Doubles.{◌⊖◌, ◌⊗◌, ◌⊘◌}
use Rattle.fit.specs.Fit.{fit_about}
use Rattle.fit.proofs.fit_about.Goals as goal

pub returns-then-sxx : goal.returns-then-sxx
unfolding fit_about of_bits
returns-then-sxx c =
    let xm = c.args.xm in
    let first = c.total-sxx.ensures (λ p. (p.place ⊖ xm) ⊗ (p.place ⊖ xm)) (λ p r e. search rules) in
    let none = sym (ap (λ (s : Float). le s plus_zero) first) ∙ c.if-sxx.true in
    simp none

pub returns : goal.returns
unfolding fit_about of_bits
returns c =
    let xm = c.args.xm in
    let ym = c.args.ym in
    let s = c.total.result ⊘ c.total-sxx.result in
    let first = c.total-sxx.ensures (λ p. (p.place ⊖ xm) ⊗ (p.place ⊖ xm)) (λ p r e. search rules) in
    let second = c.total.ensures (λ p. (p.place ⊖ xm) ⊗ (p.timing ⊖ ym)) (λ p r e. search rules) in
    let third = c.total-squares.ensures (λ p. ((p.timing ⊖ ym) ⊖ s ⊗ (p.place ⊖ xm)) ⊗ ((p.timing ⊖ ym) ⊖ s ⊗ (p.place ⊖ xm)))
    (λ p r e. search rules) in
    let some = sym (ap (λ (s : Float). le s plus_zero) first) ∙ c.if-sxx.false in
    simp (some, c.shrunk_slope.ensures, third, second, first)
