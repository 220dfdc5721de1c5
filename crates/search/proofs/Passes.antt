-- A pass whole, and the passes one after another: from what the areas hold to the search of crate trellis. Assumes nothing.
use Prim.Native.Nat.{ℕ, zero, suc, ◌+◌, ◌*◌, ◌<◌, ◌≤◌}
use mathlib.Core.List.{List}
use mathlib.Core.Option.{Option}
use mathlib.Core.Path.{◌≡◌, refl, ap, ap₂, ◌∙◌}
use native.Mathlib.Omega.{arith}
use lib.Dec.{eqb, lit≤}
use lib.Ieee.{Float, sub, binary32}
use Rattle.trellis.specs.Scale.{Scale, highest}
use Rattle.trellis.specs.Trellis.{Trellis}
use Rattle.trellis.specs.Search.{Candidate, trace_start, trace_word, decision, final, end_state, start_of, word_of, closes, score_of, gain_of, top_of, candidates}
use Rattle.trellis.specs.Numbers.{single}
use Rattle.trellis.proofs.Paths.{trace-start-cong, trace-word-cong}
use Rattle.trellis.proofs.Alike.{Follows, Alike, final-alike, decision-alike, end-alike, word-alike, closes-alike, score-alike, top-alike}
use Rattle.trellis.proofs.Best.{highest-lt, highest-same}
use Rattle.pass.specs.Areas.{table, steps_in, over, packed, Ran, gain_in, top_in}
use Rattle.traceback.specs.Scan.{considered, scanned}
use Rattle.search.specs.Passed.{Passed}
use Rattle.search.specs.declared.Traceback.{Traceback}

-- the simulation law at equality, where no size counts
pub same : {A : Type 0} (S : Scale A) → Follows S S (λ _ x z. x ≡ z) (λ _ x z. x ≡ z) 0
same S =
    record {
      nil = refl;
      wider = λ h e. e;
      term = λ e. e;
      add = λ e f h. ap₂ S.add e f;
      sub = λ e f h. ap₂ S.sub e f;
      gt = λ e f. ap₂ S.gt e f;
    }

-- the traceback over the packed decisions of a pass is the pass's own
module _ (metrics : List Float) (f : ℕ → Float) {scores : List Float} {d : List ℕ} (ran : Ran metrics f (steps_in metrics) scores d) where
  pub start-same : (s : ℕ) → s < 16384 → trace_start 16384 (packed d) (steps_in metrics) s ≡ start_of (over metrics) f s
  start-same s h = trace-start-cong refl (steps_in metrics) (λ j t l k. ran.decided.at j l t k) (steps_in metrics) s (omega arith) h

  pub word_same : (s : ℕ) → s < 16384 → trace_word 16384 (packed d) (steps_in metrics) s ≡ word_of (over metrics) f s
  word_same s h = trace-word-cong refl (steps_in metrics) (λ j t l k. ran.decided.at j l t k) (steps_in metrics) s (omega arith) h

  -- and so are its candidates
  pub scanned-same : (start : List Float) → ((s : ℕ) → s < 16384 → table start s ≡ f s) → (best : Option (Candidate Float)) (k : ℕ) → k ≤ 16384
      → scanned (packed d) (steps_in metrics) (table scores) (table start) best k ≡ candidates (over metrics) f best k
  unfolding scanned considered candidates
  scanned-same start e best zero h = refl
  scanned-same start e best (suc k) h =
      let ih = scanned-same start e best k (omega arith) in
      let gain : sub binary32 (table scores k) (table start k) ≡ sub binary32 (final (over metrics) f k) (f k) =
      ap₂ (sub binary32) (ran.held.at k h) (e k h) in
      cc (start-same k h, word_same k h)

-- the greatest gain between the areas is the pass's top
top-same : (metrics start : List Float) {scores : List Float} {d : List ℕ} → Ran metrics (table start) (steps_in metrics) scores d
    → top_in scores start ≡ top_of (over metrics) (table start)
top-same metrics start {scores} ran =
    let gains : (s : ℕ) → s < 16384 → gain_in scores start s ≡ gain_of (over metrics) (table start) s =
    λ s h. ap (λ (x : Float). sub binary32 x (table start s)) (ran.held.at s h) in
    gains _ (highest-lt single (gain_in scores start) 16384 (lit≤ tt))
    ∙ ap (gain_of (over metrics) (table start)) (highest-same single (gain_in scores start) (gain_of (over metrics) (table start)) 16384 gains)

-- what `found_by` reads off the areas
pub passed : (metrics : List Float) (start scores : List Float) (d : List ℕ) (end word reached : ℕ)
    → Ran metrics (table start) (steps_in metrics) scores d → end ≡ highest single (table scores) 16384 → end < 16384
    → word ≡ trace_word 16384 (packed d) (steps_in metrics) end → reached ≡ trace_start 16384 (packed d) (steps_in metrics) end
    → {gain : Float} → gain ≡ top_in scores start
    → Passed metrics (table start) scores d
    (record { word = word; score = sub binary32 (table scores end) (table start reached); closed = eqb reached end; top = table scores end; gain = gain })
passed metrics start scores d end word reached ran e below w r g =
    let f = table start in
    let at-end : end ≡ end_state (over metrics) f = e ∙ highest-same single (table scores) (final (over metrics) f) 16384 ran.held.at in
    let last : table scores end ≡ final (over metrics) f end = ran.held.at end below in
    let started : reached ≡ start_of (over metrics) f end = r ∙ start-same metrics f ran end below in
    record {
      ran = ran;
      word = w ∙ word_same metrics f ran end below ∙ ap (word_of (over metrics) f) at-end;
      score = ap₂ (sub binary32) last (ap f started) ∙ ap (score_of (over metrics) f) at-end;
      closed = ap (λ (s : ℕ). eqb s end) started ∙ ap (closes (over metrics) f) at-end;
      top = last ∙ ap (final (over metrics) f) at-end;
      gain = g ∙ top-same metrics start ran;
    }

-- ---- a pass from a table that agrees with another at the states

module _ (metrics : List Float) {f g : ℕ → Float} (agree : (s : ℕ) → s < 16384 → f s ≡ g s) where
  -- the laws of simulation, with this trellis on both sides
  abbrev X : Trellis Float
  X = over metrics

  start-alike : Alike (same single) 16384 X.steps 0 refl (lit≤ tt) X.earn X.earn (λ j r h k. refl) 0 f g
  start-alike = record { at = agree }

  room : (0 + X.steps * 0) + (0 + X.steps * 0) ≤ 0
  room = omega arith

  final-same : (s : ℕ) → s < 16384 → final X f s ≡ final X g s
  final-same s h = (final-alike (same single) 16384 X.steps 0 refl (lit≤ tt) X.earn X.earn (λ j r h k. refl) start-alike room).at s h

  decision-same : (j s : ℕ) → j < X.steps → s < 16384 → decision X f j s ≡ decision X g j s
  decision-same = decision-alike (same single) 16384 X.steps 0 refl (lit≤ tt) X.earn X.earn (λ j r h k. refl) start-alike room

  end_same : end_state X f ≡ end_state X g
  end_same = end-alike (same single) 16384 X.steps 0 refl (lit≤ tt) X.earn X.earn (λ j r h k. refl) start-alike room

  traced-same : (s : ℕ) → s < 16384 → word_of X f s ≡ word_of X g s
  traced-same = word-alike (same single) 16384 X.steps 0 refl (lit≤ tt) X.earn X.earn (λ j r h k. refl) start-alike room

  score-same : (s : ℕ) → s < 16384 → score_of X f s ≡ score_of X g s
  score-same = score-alike (same single) 16384 X.steps 0 refl (lit≤ tt) X.earn X.earn (λ j r h k. refl) start-alike room

  closes-same : (s : ℕ) → s < 16384 → closes X f s ≡ closes X g s
  closes-same = closes-alike (same single) 16384 X.steps 0 refl (lit≤ tt) X.earn X.earn (λ j r h k. refl) start-alike room

  ran-same : {scores : List Float} {d : List ℕ} → Ran metrics f (steps_in metrics) scores d → Ran metrics g (steps_in metrics) scores d
  ran-same ran =
      record {
        held = record { size = ran.held.size; at = λ s h. ran.held.at s h ∙ final-same s h };
        decided = record { at = λ j h s l. ran.decided.at j h s l ∙ decision-same j s h l };
      }

  pub passed-same : {scores : List Float} {d : List ℕ} {t : Traceback} → Passed metrics f scores d t → Passed metrics g scores d t
  passed-same passed =
      let below : end_state X f < 16384 = highest-lt single (final X f) 16384 (lit≤ tt) in
      record {
        ran = ran-same passed.ran;
        word = passed.word ∙ traced-same _ below ∙ ap (word_of X g) end_same;
        score = passed.score ∙ score-same _ below ∙ ap (score_of X g) end_same;
        closed = passed.closed ∙ closes-same _ below ∙ ap (closes X g) end_same;
        top = passed.top ∙ final-same _ below ∙ ap (final X g) end_same;
        gain =
            passed.gain ∙ top-alike (same single) 16384 X.steps 0 refl (lit≤ tt) X.earn X.earn (λ j r h k. refl) start-alike room;
      }
