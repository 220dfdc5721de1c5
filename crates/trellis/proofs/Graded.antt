-- WHICH OUTCOME IS GIVEN WHEN (document 02, #107), of every read that is not refused: score and ceiling are numbers, so that 'at or above' is 'not
-- below'. Assumes nothing.
use Prim.Native.Nat.{ℕ, ◌*◌, ◌≤◌}
use mathlib.Core.Path.{◌≡◌, sym, ap, ◌∙◌, subst}
use mathlib.Core.Bool.{false}
use mathlib.Core.List.{List}
use native.Mathlib.Decide.{ℕ_discrete}
use native.Mathlib.Omega.{arith}
use lib.Dec.{T}
use lib.ListN.{length}
use lib.Ieee.{Float, le, lt}
use lib.Ieee.Bits.{is_true, is_false}
use Rattle.ieee.proofs.Order.{le→not-lt, not-lt→le, finite-not-nan}
use Rattle.frame.specs.Format.{header_bits}
use Rattle.model.specs.Range.{some_out}
use Rattle.trellis.specs.Trellis.{Trellis}
use Rattle.trellis.specs.Search.{closing, Found, search, ceiling}
use Rattle.trellis.specs.Answer.{Outcome, Sure, Likely, Kept, Open}
use Rattle.trellis.specs.Numbers.{single}
use Rattle.trellis.specs.Terms.{header, lent, document_search}
use Rattle.trellis.specs.Demand.{Graded}
use Rattle.trellis.proofs.Handed.{ended, closing-pass}
use Rattle.trellis.proofs.Outcomes.{sure-says, sure-so, likely-says, likely-so, kept-says, kept-so, open-says, open-so}
use Rattle.trellis.proofs.AnyTerms.{sure-first}
use Rattle.trellis.proofs.Answered.{score-held, ceiling-held}

module _ (mode kind : ℕ) (terms : List Float) (all : length terms ≡ 260 * header_bits kind) (in-range : some_out terms ≡ false) where
  abbrev X : Trellis Float
  X = header single mode kind (lent terms)

  abbrev F : Found Float
  F = search X

  abbrev top : Float
  top = ceiling X

  abbrev given : Outcome Float
  given = (document_search mode kind terms).outcome

  -- at or above is not below
  at-or-above : lt F.score top ≡ false → T (le top F.score)
  at-or-above e =
      not-lt→le F.score top (finite-not-nan _ (score-held mode kind terms all in-range).1) (finite-not-nan _ (ceiling-held mode kind terms all in-range).1)
      (rw e tt)

  not-below : T (le top F.score) → lt F.score top ≡ false
  not-below h = is_false _ (le→not-lt top F.score h)

  pub graded : Graded X (document_search mode kind terms)
  graded =
      record {
        sure = λ x q. (
          (λ e. let (out, above, pass, score) = sure-says single F.score top (ended X) x q e in
              (out, subst (λ (y : Float). T (le top y)) (sym score) (at-or-above above), pass, score)),
          λ (out, above, pass, score).
              sure-so single F.score top (ended X) out (not-below (subst (λ (y : Float). T (le top y)) score above))
              ∙ (λ i. Sure (sym score i) (sym pass i)),
        );
        likely = λ x q. (
          (λ e. let (how, below, score) = likely-says single F.score top F.how x q e in
              (how, rw (score, below) tt, score)),
          λ (how, below, score).
              likely-so single F.score top q how (is_true _ (subst (λ (y : Float). T (lt y top)) score below)) ∙ ap (λ (y : Float). Likely y q) (sym score),
        );
        late = λ x q e. late x q e (ℕ_discrete q 1);
        kept = λ x. (
          (λ e. let (how, below, score) = kept-says single F.score top F.how x e in
              (how, rw (score, below) tt, score)),
          λ (how, below, score).
              kept-so single F.score top how (is_true _ (subst (λ (y : Float). T (lt y top)) score below)) ∙ ap Kept (sym score),
        );
        undecided = λ x. (
          (λ e. open-says single F.score top F.how x e),
          λ (how, score). open-so single F.score top how ∙ ap Open (sym score),
        );
        first = sure-first mode kind terms all in-range;
      }
    where
      -- out by closing in pass 1 it would be Sure
      late : (x : Float) (q : ℕ) → given ≡ Likely x q → Dec (q ≡ 1) → (2 ≤ q) × (q ≤ 3)
      late x q e (yes one) =
          let how = (likely-says single F.score top F.how x q e).0 in
          let sure = sure-first mode kind terms all in-range (how ∙ ap closing one) in
          let never : ◌≡◌ {A = ℕ} 0 1 = cc in
          absurd (omega arith)
      late x q e (no other) =
          let (least, most) = closing-pass X q (likely-says single F.score top F.how x q e).0 in
          (omega (arith, other), most)
