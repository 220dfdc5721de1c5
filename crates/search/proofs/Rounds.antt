-- The loop over the passes: what holds as a pass begins, and what a pass that closes, or the third, makes of it. Assumes nothing.
use Prim.Native.Nat.{ℕ, zero, suc, ◌≤◌, ◌<◌}
use mathlib.Core.Bool.{true, false}
use mathlib.Core.List.{List}
use mathlib.Core.Option.{Option, none, some}
use mathlib.Core.Path.{◌≡◌, refl, sym, ap, ap₂, ◌∙◌, subst}
use native.Mathlib.Nat.{not-suc-le-zero}
use native.Mathlib.Omega.{arith}
use borrow.Author.Count.{below_more}
use borrow.Author.Tests.{ne_eqb}
use lib.Dec.{eqb}
use lib.Ieee.{Float, nan, sub, binary32}
use lib.ListN.{length, replicate, length-replicate, get_or-replicate}
use Rattle.util.specs.Choose.{choose}
use Rattle.util.proofs.Choose.{chosen, not_chosen}
use Rattle.ieee.specs.Whole.{plus_zero}
use Rattle.trellis.specs.Scale.{lesser}
use Rattle.trellis.specs.Numbers.{single}
use Rattle.trellis.specs.Trellis.{Trellis}
use Rattle.trellis.specs.Search.{closing, unclosed, Candidate, top_of, begin, closes_in, last, ceiling_to, ceiling, best, candidates}
use Rattle.trellis.specs.Search.{word_in, settled, search}
use Rattle.pass.specs.Areas.{table, steps_in, over, packed}
use Rattle.search.specs.Lent.{Lent}
use Rattle.traceback.specs.Scan.{scanned}
use Rattle.search.specs.Passed.{Passed}
use Rattle.traceback.specs.Best.{best_is}
use Rattle.search.specs.Found.{best_or_last}
use Rattle.std.specs.Prelude.{Option as Held, None}
use Rattle.traceback.specs.declared.Best.{Best}
use Rattle.search.specs.declared.Traceback.{Traceback}
use Rattle.search.proofs.Passes.{passed-same, scanned-same}

-- pass k, counted from 0, is about to begin
pub record Begun (metrics scores next start : List Float) (decisions : List ℕ) (b : Held Best) (c : Float) (k : ℕ) : Type 0 where
  pub lent : Lent metrics scores next start decisions
  pub few : k ≤ 2
  pub held : (s : ℕ) → s < 16384 → table start s ≡ begin (over metrics) k s
  pub so_far : best_is b ≡ best (over metrics) k
  pub least : (i : ℕ) → k ≡ suc i → c ≡ ceiling_to (over metrics) i
  pub unclosed : (i : ℕ) → i < k → closes_in (over metrics) i ≡ false

-- the first pass begins with all scores at 0.0
pub first : {metrics scores next start zeros : List Float} {decisions : List ℕ} {c : Float} → Lent metrics scores next start decisions
    → zeros ≡ replicate (length start) plus_zero → Begun metrics scores next zeros decisions None c 0
unfolding begin best
first {start = start} lent e =
    record {
      lent = record {
        steps = lent.steps;
        of-scores = lent.of-scores;
        of-next = lent.of-next;
        of-start = ap length e ∙ length-replicate (length start) plus_zero ∙ lent.of-start;
        of-decisions = lent.of-decisions;
      };
      few = omega arith;
      held = λ s h. ap (λ (l : List Float). table l s) e ∙ get_or-replicate (length start) s plus_zero nan (omega (arith, lent.of-start));
      so_far = refl;
      least = λ i e. absurd (omega arith);
      unclosed = λ i h. absurd (not-suc-le-zero h);
    }

-- the first pass that closes is the last one run
module _ {A : Type 0} (X : Trellis A) where
  last-closing : (k : ℕ) → k ≤ 2 → ((i : ℕ) → i < k → closes_in X i ≡ false) → closes_in X k ≡ true → last X ≡ k
  unfolding last
  last-closing zero h unmet e = rw e
  last-closing (suc zero) h unmet e = rw (unmet 0 (omega arith), e)
  last-closing (suc (suc zero)) h unmet e = rw (unmet 0 (omega arith), unmet 1 (omega arith))
  last-closing (suc (suc (suc k))) h unmet e = absurd (omega arith)

  pub search-closing : (k : ℕ) → k ≤ 2 → ((i : ℕ) → i < k → closes_in X i ≡ false) → closes_in X k ≡ true → search X ≡ word_in X (closing (suc k)) k
  unfolding search
  search-closing k h unmet e =
      let l = last-closing k h unmet e in
      ap (λ (m : ℕ). choose (closes_in X m) (word_in X (closing (suc m)) m) (settled X (best X 3))) l
      ∙ chosen (word_in X (closing (suc k)) k) (settled X (best X 3)) e

  pub ceiling-closing : (k : ℕ) → k ≤ 2 → ((i : ℕ) → i < k → closes_in X i ≡ false) → closes_in X k ≡ true → ceiling X ≡ ceiling_to X k
  unfolding ceiling
  ceiling-closing k h unmet e = ap (ceiling_to X) (last-closing k h unmet e)

  pub ceiling-settled : ((i : ℕ) → i < 3 → closes_in X i ≡ false) → ceiling X ≡ ceiling_to X 2
  unfolding ceiling last
  ceiling-settled unmet = rw (unmet 0 (omega arith), unmet 1 (omega arith))

  pub search-settled : ((i : ℕ) → i < 3 → closes_in X i ≡ false) → search X ≡ settled X (best X 3)
  unfolding search last
  search-settled unmet = rw (unmet 0 (omega arith), unmet 1 (omega arith))
      (not_chosen (word_in X (closing 3) 2) (settled X (best X 3)) (unmet 2 (omega arith)))

-- a pass has run from there
module _ {metrics scores next start : List Float} {decisions : List ℕ} {b : Held Best} {c : Float} {k : ℕ}
    (begun : Begun metrics scores next start decisions b c k)
    {scores' : List Float} {decisions' : List ℕ} {t : Traceback} (passed : Passed metrics (table start) scores' decisions' t) where
  here : Passed metrics (begin (over metrics) k) scores' decisions' t
  here = passed-same metrics begun.held passed

  closed_is : t.closed ≡ closes_in (over metrics) k
  unfolding closes_in
  closed_is = here.closed

  -- the word is out
  pub out : t.closed ≡ true → record { how = closing (suc k); word = t.word; score = t.score } ≡ search (over metrics)
  out e = ap₂ (λ (w : ℕ) (x : Float). record { how = closing (suc k); word = w; score = x }) here.word here.score
      ∙ sym (search-closing (over metrics) k begun.few begun.unclosed (sym closed_is ∙ e))

  -- its top is counted in
  pub lowest : {r : Float} → r ≡ choose (eqb (suc k) 1) t.gain (lesser single c t.gain) → r ≡ ceiling_to (over metrics) k
  unfolding ceiling_to
  lowest e = e ∙ ap (λ (x : Float). choose (eqb (suc k) 1) x (lesser single c x)) here.gain ∙ go k begun.least
    where
      go : (k : ℕ) → ((i : ℕ) → k ≡ suc i → c ≡ ceiling_to (over metrics) i)
          → choose (eqb (suc k) 1) (top_of (over metrics) (begin (over metrics) k)) (lesser single c (top_of (over metrics) (begin (over metrics) k)))
          ≡ ceiling_to (over metrics) k
      go zero was = refl
      go (suc i) was =
          not_chosen _ _ (ne_eqb (suc (suc i)) 1 (λ e. omega arith)) ∙ ap (λ (x : Float). lesser single x (top_of (over metrics) (begin (over metrics) (suc i)))) (was i refl)

  pub out-ceiling : t.closed ≡ true → {r : Float} → r ≡ ceiling_to (over metrics) k → r ≡ ceiling (over metrics)
  out-ceiling e l = l ∙ sym (ceiling-closing (over metrics) k begun.few begun.unclosed (sym closed_is ∙ e))

  -- its candidates are counted in
  pub counted : (b' : Held Best) → best_is b' ≡ scanned (packed decisions') (steps_in metrics) (table scores') (table start) (best_is b) 16384
      → best_is b' ≡ best (over metrics) (suc k)
  unfolding best
  counted b' c =
      c
      ∙ scanned-same metrics (begin (over metrics) k) here.ran start begun.held (best_is b) 16384 (omega arith)
      ∙ ap (λ (o : Option (Candidate Float)). candidates (over metrics) (begin (over metrics) k) o 16384) begun.so_far

  unclosed-too : t.closed ≡ false → (i : ℕ) → i < suc k → closes_in (over metrics) i ≡ false
  unclosed-too e i h = below_more (λ (i : ℕ). closes_in (over metrics) i ≡ false) k begun.unclosed (sym closed_is ∙ e) i (omega arith)

  -- the next pass begins
  pub next-begins : {next' low : List Float} {r : Float} (b' : Held Best) → t.closed ≡ false → suc k ≤ 2 → best_is b' ≡ best (over metrics) (suc k)
      → r ≡ ceiling_to (over metrics) k → ((s : ℕ) → s < 16384 → table low s ≡ sub binary32 (table scores' s) t.top)
      → Lent metrics scores' next' low decisions' → Begun metrics scores' next' low decisions' b' r (suc k)
  unfolding begin
  next-begins {r = r} b' e h c least lowers lent =
      record {
        lent = lent;
        few = h;
        held = λ s l. lowers s l ∙ ap₂ (sub binary32) (here.ran.held.at s l) here.top;
        so_far = c;
        least = λ i q. subst (λ (j : ℕ). r ≡ ceiling_to (over metrics) j) (omega arith) least;
        unclosed = unclosed-too e;
      }

  -- or three passes are over
  pub over-ceiling : t.closed ≡ false → k ≡ 2 → {r : Float} → r ≡ ceiling_to (over metrics) k → r ≡ ceiling (over metrics)
  over-ceiling e two l = l ∙ ap (ceiling_to (over metrics)) two ∙ sym (ceiling-settled (over metrics) (λ i h. unclosed-too e i (omega arith)))

  pub over-all : (b' : Held Best) → t.closed ≡ false → k ≡ 2 → best_is b' ≡ best (over metrics) (suc k)
      → best_or_last (best_is b') t.word t.score ≡ search (over metrics)
  unfolding settled
  over-all b' e two c =
      let three : best (over metrics) (suc k) ≡ best (over metrics) 3 = ap (λ (n : ℕ). best (over metrics) (suc n)) two in
      ap (λ (o : Option (Candidate Float)). best_or_last o t.word t.score) (c ∙ three) ∙ by (best (over metrics) 3)
      ∙ sym (search-settled (over metrics) (λ i h. unclosed-too e i (omega arith)))
    where
      at-two : word_in (over metrics) unclosed k ≡ word_in (over metrics) unclosed 2
      at-two = ap (word_in (over metrics) unclosed) two

      by : (o : Option (Candidate Float)) → best_or_last o t.word t.score ≡ settled (over metrics) o
      by none = ap₂ (λ (w : ℕ) (x : Float). record { how = unclosed; word = w; score = x }) here.word here.score ∙ at-two
      by (some x) = refl
