-- The answer by what is gathered is the answer: where n and the count keep the rule what is gathered is the listed blocks, and where they do not
-- the answer does not look at blocks. Assumes nothing.
use Prim.Native.Nat.{ℕ, ◌*◌, ◌/◌, ◌≤◌, ◌<◌}
use mathlib.Core.Bool.{Bool, true, false, not, ◌&&◌, ◌||◌, and-false, or-true}
use mathlib.Core.List.{List}
use mathlib.Core.Path.{◌≡◌, refl, sym, ap, ◌∙◌, subst}
use native.Mathlib.Omega.{arith}
use borrow.Author.Tests.{ltb-true, ltb-false, leb-true, eqb-true, le-leb, not-false}
use lib.Dec.{leb, ltb, eqb}
use lib.IntN.{ℤ}
use lib.ListN.{length}
use Rattle.util.specs.Choose.{choose}
use Rattle.util.specs.Refusal.{Outcome, refused}
use Rattle.util.proofs.Choose.{chosen}
use Rattle.util.specs.Every.{every}
use Rattle.blocks.specs.Blocks.{good_at}
use Rattle.blocks.specs.Inside.{Gathers}
use Rattle.blocks.specs.declared.Block.{Block}
use Rattle.blocks.specs.declared.Gathered.{Gathered}
use Rattle.fit.specs.Fit.{good_blocks}
use Rattle.tracker.specs.Rule.{block_length, in_whole_blocks, count_kept, places_kept, in_range, track_answer}
use Rattle.tracker.specs.Inside.{rule_with, answer_with, Readable, answer_in}
use Rattle.tracker.specs.declared.Sample.{Sample}
use Rattle.tracker.specs.declared.Tracker.{Tracker}
use Rattle.tracker.proofs.Further.{count-below, kept-over}

-- the answer told of its own blocks
pub with_blocks : (mode : ℕ) (t : Tracker) (shifts : List ℤ) (bs : List Block) (s : Sample)
    → track_answer mode t shifts bs s ≡ answer_with mode t shifts (length bs) s (places_kept mode t bs) (good_blocks t.blocks bs)
with_blocks mode t shifts bs s = refl

-- ---- where the answer does not look at blocks
module _ (mode : ℕ) (t : Tracker) (shifts : List ℤ) (room : ℕ) (s : Sample) (p g p' g' : Bool) where
  abbrev nine : Bool → Bool
  nine q = eqb t.n 2048 || not (rule_with mode t shifts q)

  abbrev four : Bool
  four = not (eqb (length shifts) 2048 && eqb room 64)

  other-room : eqb room 64 ≡ false → answer_with mode t shifts room s p g ≡ answer_with mode t shifts room s p' g'
  other-room e =
      let holds : four ≡ true = ap (λ (b : Bool). not (eqb (length shifts) 2048 && b)) e ∙ ap not (and-false (eqb (length shifts) 2048)) in
      ap (λ (o : Outcome Unit). choose (ltb 1 mode) (refused 1) o) (chosen {t = four} _ _ holds ∙ sym (chosen {t = four} _ _ holds))

  broken : nine p ≡ true → nine p' ≡ true → answer_with mode t shifts room s p g ≡ answer_with mode t shifts room s p' g'
  broken e e' =
      ap (λ (o : Outcome Unit). choose (ltb 1 mode) (refused 1) (choose four (refused 4) (choose (not (in_range s)) (refused 8) o)))
      (chosen {t = nine p} _ _ e ∙ sym (chosen {t = nine p'} _ _ e'))

full : (mode : ℕ) (t : Tracker) (shifts : List ℤ) (q : Bool) → 2048 ≤ t.n → (eqb t.n 2048 || not (rule_with mode t shifts q)) ≡ true
full mode t shifts q h = not-false _ (kept-over t.n _ h)

over : (mode : ℕ) (t : Tracker) (shifts : List ℤ) (q : Bool) → count_kept mode t ≡ false → (eqb t.n 2048 || not (rule_with mode t shifts q)) ≡ true
over mode t shifts q e = simp (e, and-false, or-true)

module _ (mode : ℕ) (t : Tracker) (shifts : List ℤ) (bs : List Block) (s : Sample) (k : ℕ) (g : Gathered) (read : Readable mode t (length bs) k)
    (so : Gathers bs k g) where
  -- the listed blocks are gathered
  pub listed : t.n < 2048 → count_kept mode t ≡ true → length bs ≡ 64 → Gathers bs t.blocks g
  listed n c l = subst (λ (m : ℕ). Gathers bs m g) (read.all n (leb-true _ _ c) l) so

  pub few : t.n < 2048 → count_kept mode t ≡ true → t.blocks < 64
  few n c = omega (arith, leb-true t.blocks (in_whole_blocks mode t.n / block_length mode) c, count-below mode t.n (omega arith))

  seen : t.n < 2048 → count_kept mode t ≡ true → length bs ≡ 64 → answer_in mode t shifts (length bs) g s ≡ track_answer mode t shifts bs s
  seen n c l =
      let all = listed n c l in
      λ i. answer_with mode t shifts (length bs) s (all.top (2 * in_whole_blocks mode t.n) i)
      ((all.good ∙ sym (ap (λ (b : Bool). b && every t.blocks (good_at bs)) (le-leb t.blocks 64 (omega (arith, few n c))))) i)

  pub answers : answer_in mode t shifts (length bs) g s ≡ track_answer mode t shifts bs s
  answers = by-room (eqb (length bs) 64) refl
    where
      p : Bool
      p = leb g.top (2 * in_whole_blocks mode t.n)

      by_count : (b : Bool) → count_kept mode t ≡ b → t.n < 2048 → length bs ≡ 64 → answer_in mode t shifts (length bs) g s ≡ track_answer mode t shifts bs s
      by_count true c n l = seen n c l
      by_count false c n l =
          broken mode t shifts (length bs) s p g.good (places_kept mode t bs) (good_blocks t.blocks bs) (over mode t shifts p c)
          (over mode t shifts (places_kept mode t bs) c)

      by-calls : (b : Bool) → ltb t.n 2048 ≡ b → length bs ≡ 64 → answer_in mode t shifts (length bs) g s ≡ track_answer mode t shifts bs s
      by-calls true n l = by_count (count_kept mode t) refl (ltb-true t.n 2048 n) l
      by-calls false n l =
          let h = ltb-false t.n 2048 n in
          broken mode t shifts (length bs) s p g.good (places_kept mode t bs) (good_blocks t.blocks bs) (full mode t shifts p h)
          (full mode t shifts (places_kept mode t bs) h)

      by-room : (b : Bool) → eqb (length bs) 64 ≡ b → answer_in mode t shifts (length bs) g s ≡ track_answer mode t shifts bs s
      by-room true l = by-calls (ltb t.n 2048) refl (eqb-true (length bs) 64 l)
      by-room false l = other-room mode t shifts (length bs) s p g.good (places_kept mode t bs) (good_blocks t.blocks bs) l
