-- `util::mult` meets its contract: each return by the tests that led there, and a multiplier that is searched for lies below n.
-- Assumes nothing.
use Rattle.std.proofs.Common.{◌≡◌, ℕ, ◌<◌, ◌≤◌, sym, ap, ◌∙◌, arith, le-leb}
use Rattle.util.specs.Multiplier.{pairs, suits, first_of, mult_of}
use Rattle.util.proofs.Tries.{start-below, at-start, past-start}
use Rattle.util.proofs.Found.{found}
use Rattle.util.proofs.mult.Goals as goal

-- the first clause gives the second
both : (n r : ℕ) → 2 < n → n ≤ 10240 → r ≡ mult_of n → (r ≡ mult_of n) × (r ≤ 10240)
both n r low high e = (e, omega (arith, (found n low).below))

pub returns-then-n-le2-clause-answer : goal.returns-then-n-le2-clause-answer
unfolding mult_of
returns-then-n-le2-clause-answer c = simp (le-leb _ _ c.if-n-le2.true)

pub returns-then-suitable : goal.returns-then-suitable
returns-then-suitable c =
    let n = c.args.n in
    let s = c.start-s.ensures in
    let b = both n _ (omega arith) (omega arith) (s ∙ at-start n (omega arith) (sym (ap (suits n) s) ∙ sym c.suitable.ensures ∙ c.if-suitable.true)) in
    record { answer = b.0; small = b.1 }

pub around-requires : goal.around-requires
around-requires c =
    (omega arith, omega (arith, c.start-s.ensures, start-below c.args.n))

pub returns : goal.returns
returns c =
    let n = c.args.n in
    let s = c.start-s.ensures in
    let b = both n _ (omega arith) (omega arith)
    (c.around.ensures ∙ ap (λ (x : ℕ). first_of (suits n) (pairs x 1 n) 1) s
    ∙ past-start n (omega arith) (sym (ap (suits n) s) ∙ sym c.suitable.ensures ∙ c.if-suitable.false)) in
    record { answer = b.0; small = b.1 }
