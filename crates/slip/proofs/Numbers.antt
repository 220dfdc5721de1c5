-- A slip and the numbers that it holds: numbers whose pass goes with their outcome are some slip's, and no two slips have the
-- same. Assumes nothing.
use Prim.Native.Nat.{ℕ}
use mathlib.Core.Bool.{Bool, true, false, ◌&&◌, and-eq-true_iff}
use mathlib.Core.Path.{◌≡◌, refl, sym, ap, ◌∙◌}
use native.Mathlib.Omega.{arith}
use borrow.Author.Tests.{eqb-true, eqb-false, leb-true}
use lib.Dec.{eqb, leb}
use lib.Ieee.{Float}
use Rattle.util.specs.Choose.{choose}
use Rattle.trellis.specs.Answer as Answer
use Rattle.trellis.specs.Answer.{score_in}
use Rattle.outcome.specs.Outcome.{outcome_is}
use Rattle.outcome.specs.declared.Outcome.{Outcome}
use Rattle.outcome.specs.declared.Outcome.TheVariants.{Sure, Likely, Kept, Open}
use Rattle.outcome.specs.Numbers.{outcome_number, pass_number, outcome_at}
use Rattle.outcome.proofs.Back.{one-outcome}
use Rattle.slip.specs.Lawful.{pass_goes}
use Rattle.slip.specs.Slips.{fields_of}
use Rattle.slip.specs.declared.Slip.{Slip}

pub record Back (outcome pass : ℕ) (score : Float) (o : Answer.Outcome Float) : Type 0 where
  pub of-outcome : outcome_number o ≡ outcome
  pub of-pass : pass_number o ≡ pass
  pub of-score : score_in o ≡ score

pub back : (outcome pass : ℕ) (score : Float) → pass_goes outcome pass ≡ true → Back outcome pass score (outcome_at outcome pass score)
unfolding pass_goes
back outcome pass score e = by (eqb outcome 0) (eqb outcome 1) (eqb outcome 3) refl refl refl e
  where
    by : (s t u : Bool) → eqb outcome 0 ≡ s → eqb outcome 1 ≡ t → eqb outcome 3 ≡ u
        → choose s (leb 1 pass && leb pass 3) (choose u (leb 2 pass && leb pass 3) (leb outcome 2 && eqb pass 0)) ≡ true
        → Back outcome pass score
        (choose s (Answer.Sure score pass) (choose t (Answer.Kept score) (choose u (Answer.Likely score pass) (Answer.Open score))))
    by true t u p q r e = record { of-outcome = sym (eqb-true outcome 0 p); of-pass = refl; of-score = refl }
    by false true true p q r e = absurd (omega (arith, eqb-true outcome 1 q, eqb-true outcome 3 r))
    by false true false p q r e =
        let both = (and-eq-true_iff (leb outcome 2) (eqb pass 0)).0 e in
        record { of-outcome = sym (eqb-true outcome 1 q); of-pass = sym (eqb-true pass 0 both.1); of-score = refl }
    by false false true p q r e = record { of-outcome = sym (eqb-true outcome 3 r); of-pass = refl; of-score = refl }
    by false false false p q r e =
        let both = (and-eq-true_iff (leb outcome 2) (eqb pass 0)).0 e in
        let not-0 = eqb-false outcome 0 p in
        let not-1 = eqb-false outcome 1 q in
        record { of-outcome = omega (arith, leb-true outcome 2 both.0, not-0, not-1); of-pass = sym (eqb-true pass 0 both.1); of-score = refl }

-- the header read's own outcomes
abbrev named : Answer.Outcome Float → Outcome
named (Answer.Sure x pass) = Sure x pass
named (Answer.Likely x pass) = Likely x pass
named (Answer.Kept x) = Kept x
named (Answer.Open x) = Open x

its_own : (o : Outcome) → named (outcome_is o) ≡ o
its_own (Sure x pass) = refl
its_own (Likely x pass) = refl
its_own (Kept x) = refl
its_own (Open x) = refl

pub one-slip : (s t : Slip) → fields_of s ≡ fields_of t → s ≡ t
one-slip s t e =
    let same : outcome_is s.outcome ≡ outcome_is t.outcome =
    one-outcome (outcome_is s.outcome) (outcome_is t.outcome) (λ i. (e i).outcome) (λ i. (e i).pass) (λ i. (e i).score) in
    let outcome : s.outcome ≡ t.outcome = sym (its_own s.outcome) ∙ ap named same ∙ its_own t.outcome in
    λ i. record { mode = (e i).mode; kind = (e i).kind; word = (e i).word; outcome = outcome i; start = (e i).start; segment = (e i).segment }
