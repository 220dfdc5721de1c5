-- Every answer of the header read makes a lawful slip, with any start sample and any segment number. Assumes nothing.
use Prim.Native.Nat.{ℕ, suc, ◌*◌, ◌^◌, ◌<◌}
use mathlib.Core.Bool.{true, not, and-eq-true_iff}
use mathlib.Core.List.{List}
use mathlib.Core.Path.{◌≡◌, refl, sym, ap, subst, ◌∙◌}
use native.Mathlib.Omega.{arith}
use borrow.Author.Tests.{eqb-true, le-leb, not-false}
use lib.Dec.{T, eqb}
use lib.Ieee.{Float, binary32, fits}
use lib.Ieee.Bits.{is_true}
use lib.Ieee.Scale.{finite}
use lib.ListN.{length}
use Rattle.util.specs.Refusal.{accepted}
use Rattle.util.proofs.Choose.{past-cause}
use Rattle.frame.specs.Format.{named, header_bits}
use Rattle.model.specs.Range.{some_out}
use Rattle.trellis.specs.Trellis.{Trellis}
use Rattle.trellis.specs.Search.{last, search, ceiling}
use Rattle.trellis.specs.Answer.{Answer, Outcome, Sure, Likely, Kept, Open}
use Rattle.trellis.specs.Numbers.{single}
use Rattle.trellis.specs.Terms.{header, lent, document_search}
use Rattle.trellis.specs.Demand.{Graded}
use Rattle.trellis.proofs.Handed.{last-most, search-short}
use Rattle.trellis.proofs.Outcomes.{score-is}
use Rattle.trellis.proofs.Answered.{score-held}
use Rattle.trellis.proofs.Graded.{graded}
use Rattle.header.specs.Read.{Areas, lengths_right, header_read}
use Rattle.outcome.specs.Numbers.{outcome_number, pass_number}
use Rattle.slip.specs.Lawful.{pass_goes, lawful}
use Rattle.slip.specs.Slips.{answer_fields}
use Rattle.slip.proofs.Slips.{from-values}

-- the pass goes with the outcome
goes : (X : Trellis Float) (a : Answer Float) → Graded X a → (o : Outcome Float) → a.outcome ≡ o → pass_goes (outcome_number o) (pass_number o) ≡ true
unfolding pass_goes
goes X a g (Sure x q) e =
    let pass : q ≡ suc (last X) = ((g.sure x q).0 e).2 in
    rw (le-leb 1 q (omega (arith, pass)), le-leb q 3 (omega (arith, pass, last-most X))) refl
goes X a g (Likely x q) e = let (least, most) = g.late x q e in rw (le-leb 2 q least, le-leb q 3 most) refl
goes X a g (Kept x) e = refl
goes X a g (Open x) e = refl

pub answer-lawful : (mode kind : ℕ) (terms : List Float) (w : Areas) (a : Answer Float) (start segment : ℕ) → start < 2 ^ 64 → segment < 2 ^ 16
    → header_read mode kind terms w ≡ accepted a → lawful (answer_fields mode kind a start segment) ≡ true
answer-lawful mode kind terms w a start segment hs hg e =
    let one = past-cause (not (named mode kind)) 1 _ a e in
    let right = lengths_right kind (length terms) (length w.scores) (length w.next) (length w.start) (length w.decisions) in
    let two = past-cause (not right) 4 _ a one.1 in
    let three = past-cause (some_out terms) 6 _ a two.1 in
    let long = ((and-eq-true_iff (eqb (length terms) (header_bits kind * 260)) _).0 (not-false right two.0)).0 in
    let all : length terms ≡ header_bits kind * 260 = eqb-true (length terms) (header_bits kind * 260) long in
    let X = header single mode kind (lent terms) in
    let found = search X in
    let its-score = score-is single found.score (ceiling X) found.how in
    let held = score-held mode kind terms (omega (arith, all)) three.0 in
    let given = three.1 in
    let is : document_search mode kind terms ≡ a = cc in
    subst (λ (b : Answer Float). lawful (answer_fields mode kind b start segment) ≡ true) is
    (from-values (answer_fields mode kind (document_search mode kind terms) start segment)
    (record {
      of-name = not-false _ one.0;
      of_word = search-short X;
      of-pass = goes X (document_search mode kind terms) (graded mode kind terms (omega (arith, all)) three.0) _ refl;
      of-score = subst (λ (x : Float). T (fits binary32 x)) (sym its-score) held.0;
      is_finite = ap finite its-score ∙ is_true (finite found.score) held.1;
      of-start = hs;
      of-segment = hg;
    }))
