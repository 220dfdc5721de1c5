-- DEMAND 3 of document 01's search, its ceiling, and what Sure means: the theorems on what a search hands out, at the whole numbers, carried to f32
-- by the simulation. Assumes nothing.
use Prim.Native.Nat.{ℕ, zero, suc, ◌*◌, ◌%◌, ◌^◌, ◌≤◌, ◌<◌}
use mathlib.Core.Path.{◌≡◌, refl, sym, ap, ◌∙◌, subst}
use mathlib.Core.Bool.{Bool, false, not}
use mathlib.Core.List.{List}
use native.Mathlib.Omega.{arith}
use lib.Dec.{T, lit<, lit≤}
use lib.ListN.{length}
use lib.Pow.{pow_pos}
use lib.IntN.{ℤ}
use lib.Signed.{lt_z, ◌≤ℤ◌, lt_z_no}
use lib.Ieee.{Float, lt}
use Rattle.ieee.specs.Whole.{Whole}
use Rattle.ieee.proofs.Sums.{lt-whole}
use Rattle.frame.specs.Format.{header_bits}
use Rattle.frame.proofs.Air.{header-least}
use Rattle.conv.specs.Encoder.{made, bit}
use Rattle.conv.proofs.Closed.{made-below, ends-made, closed}
use Rattle.trellis.specs.Scale.{Scale}
use Rattle.trellis.specs.Trellis.{Trellis, walk_score, closed_score}
use Rattle.trellis.specs.Search.{closing, unclosed, Found, search, ceiling}
use Rattle.trellis.specs.Answer.{Answer, OutInFirstPass}
use Rattle.trellis.specs.Numbers.{single, whole}
use Rattle.trellis.specs.Terms.{header, lent, document_search, WholeTerms}
use Rattle.trellis.specs.Demand as Demand
use Rattle.trellis.specs.Demand.{walk, Another, BestWord, NoneAbove, Unbeaten, Demand3}
use Rattle.trellis.proofs.Paths.{bit-lt}
use Rattle.trellis.proofs.Best.{Ranked}
use Rattle.trellis.proofs.Handed.{Closing, Group, ended, search-exact, first-exact, search-optimal, search-unique}
use Rattle.trellis.proofs.Integers.{≤ℤ-trans, group, ranked}
use Rattle.trellis.proofs.Alike.{Same, SamePass}
use Rattle.trellis.proofs.Exact.{Stands, Term, follows-whole}
use Rattle.trellis.proofs.Metric.{header-pass, header-alike, header-ceiling, walk-alike}
use Rattle.trellis.proofs.Ceiling.{first-reached, none_above}
use Rattle.trellis.proofs.Outcomes.{score-is, not-open, sure-closed, sure-says, first-is, first-sure}
use Rattle.trellis.proofs.Sent.{sent-earns}

-- ---- the search over any kind of score, with 2 ^ K states and K steps or more

-- as many states are even, where there are two or more
states-even : (K : ℕ) → 0 < K → 2 ^ K % 2 ≡ 0
states-even zero h = absurd (omega arith)
states-even (suc K) h = omega arith

module _ {A : Type 0} (S : Scale A) (K : ℕ) (two : 0 < K) (n : ℕ) (long : K ≤ n) (earn : ℕ → ℕ → A) where
  abbrev Y : Trellis A
  Y = record { scale = S; states = 2 ^ K; steps = n; earn = earn }

  -- a walk that closes starts at the state made of the word's last K bits
  closing-made : {w : ℕ} {x : A} → Closing Y w x → closed_score Y K w ≡ x
  closing-made {w} c =
      ap (λ (p : ℕ). walk_score Y p w) (sym (ends-made (bit w) (bit-lt w) K c.start n c.start-lt long) ∙ c.closed) ∙ c.earned

  pub exact : Group S → ((search Y).how ≡ unclosed → ⊥) → closed_score Y K (search Y).word ≡ (search Y).score
  exact G out = closing-made (search-exact Y G (states-even K two) (pow_pos K) out)

  module _ {le : A → A → Type 0} {ok : ℕ → A → Type 0} (L : Ranked Y le ok) where
    pub exact-first : (search Y).how ≡ closing 1 → closed_score Y K (search Y).word ≡ (search Y).score
    exact-first e = closing-made (first-exact Y L (states-even K two) (pow_pos K) e)

    pub optimal : (search Y).how ≡ closing 1 → {p : ℕ} → p < 2 ^ K → (w : ℕ) → le (walk_score Y p w) (closed_score Y K (search Y).word)
    optimal e {p} h w =
        subst (λ (x : A). le (walk_score Y p w) x) (sym (exact-first e)) (search-optimal Y L (states-even K two) (pow_pos K) e h w)

    pub unique : (w : ℕ) → ((p v : ℕ) → p < 2 ^ K → v < 2 ^ n → ((p ≡ made (bit w) n K) × (v ≡ w) → ⊥) → T (S.gt (closed_score Y K w) (walk_score Y p v)))
        → ((search Y).word ≡ w) × ((search Y).how ≡ closing 1)
    unique w beats =
        let p-lt = made-below (bit w) (bit-lt w) n K in
        search-unique Y L (states-even K two) (pow_pos K) (made (bit w) n K) w p-lt (closed (bit w) (bit-lt w) K n long) beats

-- ---- the header read

-- a closed word is a walk too, so what is at least every walk is at least every word
pub best-word : {A : Type 0} (S : Scale A) {at_most less : A → A → Type 0} (mode kind : ℕ) (terms : ℕ → A) {a : Answer Float}
    → (OutInFirstPass a.outcome → (p w : ℕ) → p < 16384 → w < 2 ^ header_bits kind
    → at_most (walk S mode kind terms p w) (Demand.closed S mode kind terms a.word))
    → ((w : ℕ) → w < 2 ^ header_bits kind
    → ((p v : ℕ) → p < 16384 → v < 2 ^ header_bits kind → Another kind w p v → less (walk S mode kind terms p v) (Demand.closed S mode kind terms w))
    → (a.word ≡ w) × OutInFirstPass a.outcome)
    → BestWord S at_most less mode kind terms a
best-word S mode kind terms optimal unique =
    record {
      optimal = optimal;
      unbeaten = λ o w h. optimal o (made (bit w) (header_bits kind) 14) w (made-below (bit w) (bit-lt w) (header_bits kind) 14) h;
      unique = unique;
    }

pub header-long : (kind : ℕ) → 14 ≤ header_bits kind
header-long kind = omega (arith, header-least kind)

module _ (mode kind : ℕ) (terms : List Float) (ints : ℕ → ℤ) (all : length terms ≡ 260 * header_bits kind) (h : WholeTerms 800 terms ints) where
  abbrev F : Found Float
  F = search (header single mode kind (lent terms))

  abbrev I : Found ℤ
  I = search (header whole mode kind ints)

  abbrev top : Float
  top = ceiling (header single mode kind (lent terms))

  stand : (i : ℕ) → i < 260 * header_bits kind → Term 800 (lent terms i) (ints i)
  stand i l =
      let there : i < length terms = subst (λ (k : ℕ). i < k) (sym all) l in record { whole = h.whole i there; small = h.small i there }

  -- SIMULATION: in each of the three passes the f32 search decides as the search over the whole numbers does, and its scores are the whole
  -- numbers, none above 3,584,000
  pub same-pass : (k : ℕ) → k ≤ 2 → SamePass (Stands 3584000) (header single mode kind (lent terms)) (header whole mode kind ints) k
  same-pass = header-pass (follows-whole 3584000 (lit≤ tt)) mode kind 800 (lent terms) ints stand (lit≤ tt)

  -- so it finds the same word in the same way, and its score is the whole number
  pub same : Same (Stands 3584000) F I
  same = header-alike (follows-whole 3584000 (lit≤ tt)) mode kind 800 (lent terms) ints stand (lit≤ tt)

  -- and a walk's f32 score is its whole number: on such terms the premise of `AnyTerms` (a walk is below another) is demand 3's
  pub walks_less : (p v q w : ℕ) → lt (walk single mode kind (lent terms) p v) (walk single mode kind (lent terms) q w)
      ≡ lt_z (walk whole mode kind ints p v) (walk whole mode kind ints q w)
  walks_less p v q w =
      let stands = walk-alike (follows-whole 3584000 (lit≤ tt)) mode kind 800 (lent terms) ints stand (lit≤ tt) in
      (follows-whole 3584000 (lit≤ tt)).gt (stands q w) (stands p v)

  abbrev earn_z : ℕ → ℕ → ℤ
  earn_z = (header whole mode kind ints).earn

  closed-score : (F.how ≡ unclosed → ⊥) → Demand.closed whole mode kind ints F.word ≡ I.score
  closed-score out =
      ap (Demand.closed whole mode kind ints) same.word
      ∙ exact whole 14 (lit< tt) (header_bits kind) (header-long kind) earn_z group (λ e. out (same.how ∙ e))

  -- the ceiling is that of the search over the whole numbers,
  is-ceiling : Whole top (ceiling (header whole mode kind ints))
  is-ceiling = (header-ceiling (follows-whole 3584000 (lit≤ tt)) mode kind 800 (lent terms) ints stand (lit≤ tt)).whole

  -- and out by closing in the first pass the score is not below it
  first-not-below : I.how ≡ closing 1 → lt F.score top ≡ false
  first-not-below e = lt-whole same.score.whole is-ceiling ∙ first-reached (header whole mode kind ints) ranked (lit< tt) e

  pub demand-3 : Demand3 mode kind ints terms (document_search mode kind terms)
  demand-3 =
      record {
        given = refl;
        exact = λ c. rw (score-is single F.score top F.how, closed-score (not-open single F.score top F.how c)) same.score.whole;
        sent = sent-earns mode kind ints;
        best = best-word whole mode kind ints
            (λ o p w hp _.
            subst (λ (v : ℕ). walk whole mode kind ints p w ≤ℤ Demand.closed whole mode kind ints v) (sym same.word)
            (optimal whole 14 (lit< tt) (header_bits kind) (header-long kind) earn_z ranked (sym same.how ∙ first-is single F.score top F.how o) hp w))
            (λ w _ beats.
            let u = unique whole 14 (lit< tt) (header_bits kind) (header-long kind) earn_z ranked w (λ p v hp hv other. (beats p v hp hv other).lt) in
            (same.word ∙ u.0, (F.score, first-sure single F.score top (same.how ∙ u.1) (first-not-below u.1))));
      }

  -- no closed word is above the ceiling,
  pub bounded : NoneAbove Whole ◌≤ℤ◌ mode kind ints (document_search mode kind terms)
  bounded =
      record {
        bound = ceiling (header whole mode kind ints);
        is = is-ceiling;
        none_above = λ w h. none_above 14 (header_bits kind) (header-long kind) earn_z w;
      }

  -- so none beats a Sure one, in whichever pass, since its score is not below it
  pub unbeaten : Unbeaten ◌≤ℤ◌ mode kind ints (document_search mode kind terms)
  unbeaten (x, q, e) w h =
      let above = (sure-says single F.score top (ended (header single mode kind (lent terms))) x q e).1 in
      ≤ℤ-trans (none_above 14 (header_bits kind) (header-long kind) earn_z w)
      (subst (λ (z : ℤ). ceiling (header whole mode kind ints) ≤ℤ z)
      (sym (closed-score (not-open single F.score top F.how (sure-closed single F.score top F.how (x, q, e)))))
      (lt_z_no (subst (λ (t : Bool). T (not t)) (sym above ∙ lt-whole same.score.whole is-ceiling) tt)))
