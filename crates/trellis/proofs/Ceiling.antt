-- THE CEILING (document 02, #106). It is the top of one of the passes, so what holds of every pass's top holds of it. Out by closing in the first
-- pass it is the score, which is then not below it. Where sums can be taken back, no closed word scores above any pass's top: its walk ends in the
-- state in which it starts, so that state's gain is at least its score, whatever the start scores. Assumes nothing.
use Prim.Native.Nat.{ℕ, zero, suc, ◌%◌, ◌^◌, ◌≤◌, ◌<◌}
use mathlib.Core.Path.{◌≡◌, refl, sym, ap, ◌∙◌, subst, subst₂}
use mathlib.Core.Bool.{Bool, true, false}
use native.Mathlib.Omega.{arith}
use lib.Pow.{pow_pos}
use lib.IntN.{ℤ, neg_ℤ, ◌+ℤ◌, ◌-ℤ◌, +ℤ_comm, +ℤ-neg_ℤ_cancel}
use lib.Signed.{◌≤ℤ◌}
use Rattle.util.specs.Choose.{choose}
use Rattle.ieee.proofs.Integers.{+ℤ-swap}
use Rattle.conv.specs.Encoder.{state, bit}
use Rattle.conv.proofs.Closed.{made-below, closed}
use Rattle.trellis.specs.Trellis.{Trellis, walk_score, closed_score}
use Rattle.trellis.specs.Search.{closing, Found, decision, final, end_state, start_of, word_of, gain_of, top_of, lowered, begin, last, ceiling_to}
use Rattle.trellis.specs.Search.{ceiling, search}
use Rattle.trellis.specs.Numbers.{whole}
use Rattle.trellis.proofs.Paths.{bit-lt, trace-start-lt, trace-state}
use Rattle.trellis.proofs.Best.{Ranked, attained, scores-ok, no-walk-above, highest-le, highest-lt, highest-same}
use Rattle.trellis.proofs.Handed.{last-most, first-last, first_out, first-closes, along-from}
use Rattle.trellis.proofs.Integers.{≤ℤ-trans, ≤ℤ-add, ≤ℤ-less, group, ranked}

module _ {A : Type 0} (X : Trellis A) where
  module _ (P : A → Type 0) (each : (k : ℕ) → k ≤ 2 → P (top_of X (begin X k))) where
    either : (t : Bool) {a b : A} → P a → P b → P (choose t b a)
    either true p q = q
    either false p q = p

    so_far : (k : ℕ) → k ≤ 2 → P (ceiling_to X k)
    unfolding ceiling_to
    so_far zero h = each zero h
    so_far (suc k) h = either (X.scale.gt (ceiling_to X k) (top_of X (begin X (suc k)))) (so_far k (omega arith)) (each (suc k) h)

    -- what holds of each pass's top holds of the ceiling
    pub ceiling-each : P (ceiling X)
    unfolding ceiling
    ceiling-each = so_far (last X) (last-most X)

  -- the first pass starts from nil, so its top is the end state's score
  module _ {le : A → A → Type 0} {ok : ℕ → A → Type 0} (L : Ranked X le ok) where
    first-top : top_of X (begin X 0) ≡ gain_of X (begin X 0) (end_state X (begin X 0))
    unfolding begin
    first-top =
        ap (gain_of X (begin X 0)) (highest-same X.scale (gain_of X (begin X 0)) (final X (begin X 0)) X.states
        (λ s h. L.sub-nil (scores-ok X L (begin X 0) (λ s l. L.nil-ok) X.steps (omega arith) h)))

    pub first-ceiling : (search X).how ≡ closing 1 → ceiling X ≡ (search X).score
    unfolding begin ceiling ceiling_to
    first-ceiling e =
        let out = first-closes X e in
        ap (ceiling_to X) (first-last X out) ∙ first-top ∙ sym (ap (λ (f : Found A). f.score) (first_out X out))

    pub first-reached : 0 < X.states → (search X).how ≡ closing 1 → X.scale.gt (ceiling X) (search X).score ≡ false
    unfolding begin
    first-reached some-state e =
        let f = begin X 0 in
        let end_lt = highest-lt X.scale (final X f) X.states some-state in
        let ok_end = scores-ok X L f (λ s l. L.nil-ok) X.steps (omega arith) end_lt in
        let is-end : (search X).score ≡ final X f (end_state X f) =
        ap (λ (g : Found A). g.score) (first_out X (first-closes X e)) ∙ L.sub-nil ok_end in
        (λ i. X.scale.gt ((first-ceiling e ∙ is-end) i) (is-end i)) ∙ itself (final X f (end_state X f)) ok_end _ refl
      where
        itself : (a : A) → ok X.steps a → (t : Bool) → X.scale.gt a a ≡ t → X.scale.gt a a ≡ false
        itself a o true e = absurd (L.gt_not_le (rw e tt) (L.le_refl o))
        itself a o false e = e

-- the whole numbers, 2 ^ K states and K steps or more
module _ (K n : ℕ) (long : K ≤ n) (earn : ℕ → ℕ → ℤ) where
  abbrev Y : Trellis ℤ
  Y = record { scale = whole; states = 2 ^ K; steps = n; earn = earn }

  -- from any start scores: what a walk earns is at most what the end score of its last state has above the start score of its first,
  walk-below : (f : ℕ → ℤ) {p q : ℕ} → p < 2 ^ K → (w : ℕ) → state (2 ^ K) p (bit w) n ≡ q → walk_score Y p w ≤ℤ (final Y f q -ℤ f p)
  walk-below f {p} {q} h w ends =
      ≤ℤ-less (f p) (final Y f q) (walk_score Y p w)
      (subst₂ ◌≤ℤ◌ (along-from Y group (f p) p w n) (ap (final Y f) ends) (no-walk-above Y ranked f (λ s l. tt) h w n (omega arith)))

  -- and a state's gain at most the top
  gain-below : (f : ℕ → ℤ) {s : ℕ} → s < 2 ^ K → gain_of Y f s ≤ℤ top_of Y f
  gain-below f h = highest-le {X = Y} ranked {j = 0} (gain_of Y f) (2 ^ K) (record { at = λ s l. tt }) h

  word_below : (f : ℕ → ℤ) (w : ℕ) → closed_score Y K w ≤ℤ top_of Y f
  word_below f w =
      let h = made-below (bit w) (bit-lt w) n K in
      ≤ℤ-trans (walk-below f h w (closed (bit w) (bit-lt w) K n long)) (gain-below f h)

  pub none_above : (w : ℕ) → closed_score Y K w ≤ℤ ceiling Y
  none_above w = ceiling-each Y (λ x. closed_score Y K w ≤ℤ x) (λ k h. word_below (begin Y k) w)

  -- ---- no pass's top is above that of the one before, so the last is the least (at f32 rounding can raise one: Runs)

  -- P and S are end scores of the pass before, F the start score that goes with P there: all are lowered by c, and W is earned from P to S
  lowered-gain : (P S F c W : ℤ) → W ≤ℤ (S -ℤ F) → ((P -ℤ c +ℤ W) -ℤ (S -ℤ c)) ≤ℤ (P -ℤ F)
  lowered-gain P S F c W h =
      let moved : (P -ℤ c +ℤ W) ≤ℤ (P -ℤ F +ℤ (S -ℤ c)) =
      subst₂ ◌≤ℤ◌ (+ℤ_comm W (P -ℤ c))
      (+ℤ_comm (S -ℤ F) (P -ℤ c) ∙ +ℤ-swap P (neg_ℤ c) S (neg_ℤ F) ∙ ap (λ (x : ℤ). P +ℤ S +ℤ x) (+ℤ_comm (neg_ℤ c) (neg_ℤ F))
      ∙ sym (+ℤ-swap P (neg_ℤ F) S (neg_ℤ c))) (≤ℤ-add (P -ℤ c) h) in
      subst (λ (x : ℤ). ((P -ℤ c +ℤ W) -ℤ (S -ℤ c)) ≤ℤ x) (+ℤ-neg_ℤ_cancel (P -ℤ F) (S -ℤ c)) (≤ℤ-add (neg_ℤ (S -ℤ c)) moved)

  -- the walk that is traced back from s was there for the pass before as well
  gain-falls : (even : 2 ^ K % 2 ≡ 0) (f : ℕ → ℤ) {s : ℕ} → s < 2 ^ K → gain_of Y (lowered Y f) s ≤ℤ top_of Y f
  gain-falls even f {s} h =
      let p = start_of Y (lowered Y f) s in
      let w = word_of Y (lowered Y f) s in
      let p-lt = trace-start-lt even (decision Y (lowered Y f)) n h in
      let was = walk-below f p-lt w (trace-state (2 ^ K) even (decision Y (lowered Y f)) n h) in
      let is = sym (along-from Y group (lowered Y f p) p w n) ∙ attained Y even (lowered Y f) n h in
      ≤ℤ-trans
      (subst (λ (x : ℤ). (x -ℤ lowered Y f s) ≤ℤ gain_of Y f p) is
      (lowered-gain (final Y f p) (final Y f s) (f p) (final Y f (end_state Y f)) (walk_score Y p w) was))
      (gain-below f p-lt)

  pub tops-fall : 2 ^ K % 2 ≡ 0 → (k : ℕ) → top_of Y (begin Y (suc k)) ≤ℤ top_of Y (begin Y k)
  unfolding begin
  tops-fall even k = gain-falls even (begin Y k) (highest-lt whole (gain_of Y (begin Y (suc k))) (2 ^ K) (pow_pos K))
