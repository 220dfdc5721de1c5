-- A header's answer, or its refusal, as the face writes them. Assumes nothing.
use Prim.Native.Nat.{ℕ}
use mathlib.Core.Bool.{true}
use mathlib.Core.List.{List}
use mathlib.Core.Path.{◌≡◌, refl, sym, ap, ◌∙◌, subst}
use lib.Ieee.{Float}
use Rattle.util.specs.Refusal.{Cause, Outcome, refused, outcome, number_of, meaning_by}
use Rattle.util.proofs.Number.{numbered, not-zero}
use Rattle.ieee.specs.Whole.{plus_zero}
use Rattle.trellis.specs.Answer as Answer
use Rattle.trellis.specs.Answer.{score_in}
use Rattle.trellis.specs.Demand.{Claims}
use Rattle.header.specs.Read.{Areas, answer_is, area_after}
use Rattle.header.specs.declared.HeaderAnswer.{HeaderAnswer}
use Rattle.std.specs.Prelude.{Result, Ok, Err}
use Rattle.util.specs.declared.refusal.Refusal.{Refusal}
use Rattle.outcome.specs.Outcome.{outcome_is}
use Rattle.outcome.specs.Numbers.{outcome_number, pass_number}
use Rattle.outcome.proofs.Back.{named_back}
use Rattle.header_face.specs.Face.{Lent, lent, answer_at, Told, Faced}

-- the number and the places of an answer, and of a refusal
pub answered : {h : Result HeaderAnswer Refusal} (was : Lent) (a : HeaderAnswer) {number pass : ℕ} {score : Float} → h ≡ Ok a
    → number ≡ outcome_number (outcome_is a.outcome) → pass ≡ pass_number (outcome_is a.outcome) → score ≡ score_in (outcome_is a.outcome)
    → Told (meaning_by answer_is h) was (lent a.word number pass score a.ceiling) 0
answered was a {number} {pass} {score} e p q r =
    subst (λ (h : Result HeaderAnswer Refusal). Told (meaning_by answer_is h) was (lent a.word number pass score a.ceiling) 0) (sym e)
    (record { answer = refl; of_word = refl; of-outcome = p; of-pass = q; of-score = r; of-ceiling = refl })

pub refused-told : {h : Result HeaderAnswer Refusal} (was : Lent) {k : Refusal} → h ≡ Err k → Told (meaning_by answer_is h) was was (number_of k)
refused-told was {k} e =
    subst (λ (h : Result HeaderAnswer Refusal). Told (meaning_by answer_is h) was was (number_of k)) (sym e)
    (record { answer = refl; of_word = refl; of-outcome = refl; of-pass = refl; of-score = refl; of-ceiling = refl })

-- with the areas as the read leaves them, it is the entry's outcome that is told
pub faced : (h : Result HeaderAnswer Refusal) {o : Outcome (Answer.Answer Float)} {w w' : Areas} {was new : Lent} {r : ℕ} → meaning_by answer_is h ≡ o → Told (meaning_by answer_is h) was new r
    → w'.scores ≡ area_after (meaning_by answer_is h) plus_zero w.scores → w'.next ≡ area_after (meaning_by answer_is h) plus_zero w.next
    → w'.start ≡ area_after (meaning_by answer_is h) plus_zero w.start → w'.decisions ≡ area_after (meaning_by answer_is h) 0 w.decisions → Faced o w w' was new r
faced h {w = w} {w' = w'} {was = was} {new = new} {r = r} e t scores next start decisions =
    subst (λ (o : Outcome (Answer.Answer Float)). Faced o w w' was new r) e
    (record { told = t; of-scores = scores; of-next = next; of-start = start; of-decisions = decisions })

-- where the number is 0, what the entry claims of its answer is claimed of what the five places hold: a refusal's number is not 0
pub claimed : (h : Result HeaderAnswer Refusal) {mode kind : ℕ} {terms : List Float} {was new : Lent} {r : ℕ} (cs : List Cause) (x : Answer.Answer Float)
    → numbered cs ≡ true → meaning_by answer_is h ≡ outcome cs x → Told (meaning_by answer_is h) was new r
    → ((a : HeaderAnswer) → h ≡ Ok a → Claims mode kind terms (answer_is a)) → r ≡ 0 → Claims mode kind terms (answer_at new)
claimed (Ok a) {mode} {kind} {terms} cs x n e t of z =
    subst (Claims mode kind terms)
    (sym ((λ i. answer_at (lent (t.of_word i) (t.of-outcome i) (t.of-pass i) (t.of-score i) (t.of-ceiling i)))
    ∙ ap (λ (o : Answer.Outcome Float). record { word = a.word; outcome = o; ceiling = a.ceiling }) (named_back (outcome_is a.outcome))))
    (of a refl)
claimed (Err k) cs x n e t of z = absurd (not-zero cs x n (sym e ∙ ap refused (sym t.answer ∙ z)))
