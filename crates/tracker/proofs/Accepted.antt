-- What an accepted call of the tracker says of its arguments, and back: by the causes one after the other. Assumes nothing.
use Prim.Native.Nat.{ℕ, ◌/◌, ◌≤◌, ◌<◌}
use mathlib.Core.Bool.{Bool, true, false, not, ◌&&◌, ◌||◌, and-eq-true_iff}
use mathlib.Core.Logic.{⊎_elim}
use mathlib.Core.List.{List}
use mathlib.Core.Path.{◌≡◌, refl, ap, ◌∙◌}
use native.Mathlib.Nat.{eq-or-lt_of_le}
use borrow.Author.Tests.{leb-true, ltb-false, eqb-true, eqb-false, eq-eqb, le-ltb, not-true, not-false}
use lib.Dec.{leb, ltb, eqb}
use lib.IntN.{ℤ, pos}
use lib.ListN.{length, get_or}
use Rattle.util.specs.Choose.{choose}
use Rattle.util.specs.Refusal.{Outcome, refused, accepted, afterwards}
use Rattle.util.proofs.Choose.{chosen, not_chosen, past-cause}
use Rattle.util.proofs.Some.{neither}
use Rattle.util.specs.Every.{every}
use Rattle.tracker.specs.Rule.{block_length, in_whole_blocks, count_kept, drift_kept, sums_kept, shift_kept, in_range}
use Rattle.tracker.specs.Inside.{rule_with, answer_with}
use Rattle.tracker.specs.declared.Sample.{Sample}
use Rattle.tracker.specs.declared.Tracker.{Tracker}

-- what is lent, at exit, under one outcome
pub after_same : {B : Type 0} (o o' : Outcome Unit) (was u v : B) → o ≡ o' → (o' ≡ accepted tt → u ≡ v) → afterwards o was u ≡ afterwards o' was v
after_same o (refused j) was u v e h = ap (λ (z : Outcome Unit). afterwards z was u) e
after_same o (accepted tt) was u v e h = ap (λ (z : Outcome Unit). afterwards z was u) e ∙ h refl

-- ---- the clauses, one by one
pub record Accepted (mode : ℕ) (t : Tracker) (shifts : List ℤ) (room : ℕ) (s : Sample) (places good : Bool) : Type 0 where
  pub known : mode ≤ 1
  pub long : length shifts ≡ 2048
  pub many : room ≡ 64
  pub range : in_range s ≡ true
  pub calls : t.n < 2048
  pub count : t.blocks ≤ in_whole_blocks mode t.n / block_length mode
  pub below : places ≡ true
  pub drift : drift_kept mode t ≡ true
  pub sums : sums_kept t ≡ true
  pub shift : shift_kept t.shift ≡ true
  pub stored : every t.n (λ j. shift_kept (get_or shifts j (pos 0))) ≡ true
  pub sound : good ≡ true

module _ (mode : ℕ) (t : Tracker) (shifts : List ℤ) (room : ℕ) (s : Sample) (places good : Bool) where
  pub accepted-says : answer_with mode t shifts room s places good ≡ accepted tt → Accepted mode t shifts room s places good
  accepted-says e =
      let one = past-cause (ltb 1 mode) _ _ tt e in
      let four = past-cause (not (eqb (length shifts) 2048 && eqb room 64)) _ _ tt one.1 in
      let eight = past-cause (not (in_range s)) _ _ tt four.1 in
      let nine = past-cause (eqb t.n 2048 || not (rule_with mode t shifts places)) _ _ tt eight.1 in
      let ten = past-cause (not good) _ _ tt nine.1 in
      let lengths = (and-eq-true_iff (eqb (length shifts) 2048) (eqb room 64)).0 (not-false (eqb (length shifts) 2048 && eqb room 64) four.0) in
      let full = neither (eqb t.n 2048) (not (rule_with mode t shifts places)) nine.0 in
      let r₁ = (and-eq-true_iff (leb t.n 2048) _).0 (not-false (rule_with mode t shifts places) full.1) in
      let r₂ = (and-eq-true_iff (count_kept mode t) _).0 r₁.1 in
      let r₃ = (and-eq-true_iff places _).0 r₂.1 in
      let r₄ = (and-eq-true_iff (drift_kept mode t) _).0 r₃.1 in
      let r₅ = (and-eq-true_iff (sums_kept t) _).0 r₄.1 in
      let r₆ = (and-eq-true_iff (shift_kept t.shift) (every t.n (λ j. shift_kept (get_or shifts j (pos 0))))).0 r₅.1 in
      let at_most : t.n ≤ 2048 = leb-true t.n 2048 r₁.0 in
      record {
        known = ltb-false 1 mode one.0;
        long = eqb-true _ _ lengths.0;
        many = eqb-true _ _ lengths.1;
        range = not-false (in_range s) eight.0;
        calls = less at_most (eqb-false _ _ full.0);
        count = leb-true _ _ r₂.0;
        below = r₃.0;
        drift = r₄.0;
        sums = r₅.0;
        shift = r₆.0;
        stored = r₆.1;
        sound = not-false good ten.0;
      }
    where
      less : {n : ℕ} → n ≤ 2048 → (n ≡ 2048 → ⊥) → n < 2048
      less h ne = ⊎_elim (λ e. absurd (ne e)) (λ l. l) (eq-or-lt_of_le h)

  -- the ways past the first three causes
  in-form : mode ≤ 1 → length shifts ≡ 2048 → room ≡ 64 → in_range s ≡ true
      → answer_with mode t shifts room s places good ≡ choose (eqb t.n 2048 || not (rule_with mode t shifts places)) (refused 9)
      (choose (not good) (refused 10) (accepted tt))
  in-form known long many range =
      not_chosen {t = ltb 1 mode} _ _ (le-ltb 1 mode known)
      ∙ not_chosen {t = not (eqb (length shifts) 2048 && eqb room 64)} _ _ (λ i. not (eq-eqb (length shifts) 2048 long i && eq-eqb room 64 many i))
      ∙ not_chosen {t = not (in_range s)} _ _ (ap not range)

  pub refused-eight : mode ≤ 1 → length shifts ≡ 2048 → room ≡ 64 → in_range s ≡ false → answer_with mode t shifts room s places good ≡ refused 8
  refused-eight known long many range =
      not_chosen {t = ltb 1 mode} _ _ (le-ltb 1 mode known)
      ∙ not_chosen {t = not (eqb (length shifts) 2048 && eqb room 64)} _ _ (λ i. not (eq-eqb (length shifts) 2048 long i && eq-eqb room 64 many i))
      ∙ chosen {t = not (in_range s)} _ _ (ap not range)

  pub refused-nine : mode ≤ 1 → length shifts ≡ 2048 → room ≡ 64 → in_range s ≡ true → not (eqb t.n 2048 || not (rule_with mode t shifts places)) ≡ false
      → answer_with mode t shifts room s places good ≡ refused 9
  refused-nine known long many range e = in-form known long many range ∙ chosen {t = eqb t.n 2048 || not (rule_with mode t shifts places)} _ _
      (not-false _ e)

  pub refused-ten : mode ≤ 1 → length shifts ≡ 2048 → room ≡ 64 → in_range s ≡ true
      → not (eqb t.n 2048 || not (rule_with mode t shifts places)) ≡ true → good ≡ false
      → answer_with mode t shifts room s places good ≡ refused 10
  refused-ten known long many range e h =
      in-form known long many range ∙ not_chosen {t = eqb t.n 2048 || not (rule_with mode t shifts places)} _ _ (not-true _ e)
      ∙ chosen {t = not good} _ _ (ap not h)

  pub all-passed : mode ≤ 1 → length shifts ≡ 2048 → room ≡ 64 → in_range s ≡ true
      → not (eqb t.n 2048 || not (rule_with mode t shifts places)) ≡ true → good ≡ true
      → answer_with mode t shifts room s places good ≡ accepted tt
  all-passed known long many range e h =
      in-form known long many range ∙ not_chosen {t = eqb t.n 2048 || not (rule_with mode t shifts places)} _ _ (not-true _ e)
      ∙ not_chosen {t = not good} _ _ (ap not h)
