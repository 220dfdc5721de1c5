-- SIMULATION. Where numbers x stand for numbers z (`Follows`), the search over the x and the search over the z take the same decisions,
-- end in the same states and find the same words, and their scores and ceilings stand for one another, as long as sizes stay in room.
-- Assumes nothing.
use Prim.Native.Nat.{ℕ, zero, suc, ◌+◌, ◌*◌, ◌/◌, ◌%◌, ◌≤◌, ◌<◌}
use mathlib.Core.Path.{◌≡◌, refl, ap, ap₂, ◌∙◌, subst}
use mathlib.Core.Bool.{Bool, true, false, ◌&&◌}
use mathlib.Core.Option.{Option, none, some}
use native.Mathlib.Nat.{le_trans, mul-le-mul_right}
use native.Mathlib.Omega.{arith}
use lib.Dec.{eqb}
use Rattle.util.specs.Choose.{choose}
use Rattle.ieee.specs.Whole.{run}
use Rattle.trellis.specs.Scale.{Scale, sum, highest}
use Rattle.trellis.specs.Trellis.{Trellis}
use Rattle.trellis.specs.Search.{How, closing, Candidate, Found, brings, upper, scores, decision, final, end_state, start_of, word_of}
use Rattle.trellis.specs.Search.{closes, score_of, gain_of, top_of, beats, candidates, lowered, begin, closes_in, last, ceiling_to, ceiling, best}
use Rattle.trellis.specs.Search.{word_in, settled, search}
use Rattle.trellis.proofs.Paths.{trace-start-cong, trace-word-cong, trace-start-lt}
use Rattle.trellis.proofs.Best.{highest-up-to, highest-lt}
use Rattle.trellis.proofs.Handed.{last-most}

-- `R q x z` says of scores, and `W q x z` of what is added to them, that x stands for z and that they are at most q large: up to `cap` sums and
-- differences do so too, and the tests agree.
pub record Follows {A B : Type 0} (S : Scale A) (Z : Scale B) (R W : ℕ → A → B → Type 0) (cap : ℕ) : Type 0 where
  pub nil : R 0 S.nil Z.nil
  pub wider : {a b : ℕ} {x : A} {z : B} → a ≤ b → R a x z → R b x z
  pub term : {a : ℕ} {x : A} {z : B} → R a x z → W a x z
  pub add : {a b : ℕ} {x y : A} {z v : B} → R a x z → W b y v → a + b ≤ cap → R (a + b) (S.add x y) (Z.add z v)
  pub sub : {a b : ℕ} {x y : A} {z v : B} → R a x z → R b y v → a + b ≤ cap → R (a + b) (S.sub x y) (Z.sub z v)
  pub gt : {a b : ℕ} {x y : A} {z v : B} → R a x z → R b y v → S.gt x y ≡ Z.gt z v

-- two searches in pass k: the same decisions, tracebacks and end state, and scores that stand for one another, among them the end score less
-- the start score of one state, whether or not its traceback closes
pub record SamePass {A B : Type 0} (R : A → B → Type 0) (X : Trellis A) (Y : Trellis B) (k : ℕ) : Type 0 where
  pub scores : (j s : ℕ) → j ≤ X.steps → s < X.states → R (scores X (begin X k) j s) (scores Y (begin Y k) j s)
  pub decisions : (j s : ℕ) → j < X.steps → s < X.states → decision X (begin X k) j s ≡ decision Y (begin Y k) j s
  pub starts : (s : ℕ) → s < X.states → start_of X (begin X k) s ≡ start_of Y (begin Y k) s
  pub words : (s : ℕ) → s < X.states → word_of X (begin X k) s ≡ word_of Y (begin Y k) s
  pub word-scores : (s : ℕ) → s < X.states → R (score_of X (begin X k) s) (score_of Y (begin Y k) s)
  pub gains : (s : ℕ) → s < X.states → R (gain_of X (begin X k) s) (gain_of Y (begin Y k) s)
  pub ends : end_state X (begin X k) ≡ end_state Y (begin Y k)

-- two answers of a search that say the same
pub record Same {A B : Type 0} (R : A → B → Type 0) (a : Found A) (b : Found B) : Type 0 where
  pub how : a.how ≡ b.how
  pub word : a.word ≡ b.word
  pub score : R a.score b.score

-- two candidates
pub data SameBest {A B : Type 0} (R : A → B → Type 0) : Option (Candidate A) → Option (Candidate B) → Type 0 where
  neither : SameBest R none none
  both : {b : Candidate A} {c : Candidate B} → b.word ≡ c.word → R b.gain c.gain → SameBest R (some b) (some c)

-- how large start scores can be in pass k, where a pass adds at most D
unfoldable pub reach : ℕ → ℕ → ℕ
reach D zero = 0
reach D (suc k) = (reach D k + D) + (reach D k + D)

reach-up : (D k m : ℕ) → k ≤ m → reach D k ≤ reach D m
unfolding reach
reach-up D zero m h = omega arith
reach-up D (suc k) zero h = absurd (omega arith)
reach-up D (suc k) (suc m) h = let ih = reach-up D k m (omega arith) in omega arith

-- two choices by one test
choose-alike : {A B : Type 0} (R : A → B → Type 0) {x y : A} {z v : B} (t u : Bool) → t ≡ u → R x z → R y v → R (choose t x y) (choose u z v)
choose-alike R {x} {y} {z} {v} t u e h k = subst (λ (b : Bool). R (choose t x y) (choose b z v)) e (go t)
  where
    go : (t : Bool) → R (choose t x y) (choose t z v)
    go true = h
    go false = k

module _ {A B : Type 0} {S : Scale A} {Z : Scale B} {R W : ℕ → A → B → Type 0} {cap : ℕ} (F : Follows S Z R W cap) where
  -- a sum of k that are at most M large
  pub sum_alike : (M : ℕ) (u : ℕ → A) (v : ℕ → B) (k : ℕ) → ((i : ℕ) → i < k → W M (u i) (v i)) → k * M ≤ cap
      → R (k * M) (sum S u k) (sum Z v k)
  unfolding run
  sum_alike M u v zero h room = F.wider (omega arith) F.nil
  sum_alike M u v (suc k) h room =
      F.wider {a = k * M + M} (omega arith)
      (F.add (sum_alike M u v k (λ i l. h i (omega arith)) (omega arith)) (h k (omega arith)) (omega arith))

  beats-alike : {q r : ℕ} {b : Option (Candidate A)} {c : Option (Candidate B)} {x : A} {z : B} → SameBest (R q) b c → R r x z
      → beats S b x ≡ beats Z c z
  unfolding beats
  beats-alike neither k = refl
  beats-alike (both w h) k = F.gt k h

-- N states, n steps, and what registers earn stands for one another and is at most M large
module _ {A B : Type 0} {S : Scale A} {Z : Scale B} {R W : ℕ → A → B → Type 0} {cap : ℕ} (F : Follows S Z R W cap)
    (N n M : ℕ) (even : N % 2 ≡ 0) (some-state : 0 < N) (earn : ℕ → ℕ → A) (earn_z : ℕ → ℕ → B)
    (earns : (j r : ℕ) → j < n → r < N + N → R M (earn j r) (earn_z j r)) where
  abbrev X : Trellis A
  X = record { scale = S; states = N; steps = n; earn = earn }

  abbrev Y : Trellis B
  Y = record { scale = Z; states = N; steps = n; earn = earn_z }

  -- two tables, state by state
  pub record Alike (b : ℕ) (f : ℕ → A) (g : ℕ → B) : Type 0 where
    pub at : (s : ℕ) → s < N → R b (f s) (g s)

  highest-alike : {b : ℕ} (f : ℕ → A) (g : ℕ → B) → Alike b f g → (k : ℕ) → k ≤ N → highest S f k ≡ highest Z g k
  unfolding highest
  highest-alike f g al zero h = refl
  highest-alike {b} f g al (suc k) h =
      let ih = highest-alike f g al k (omega arith) in
      let m = highest S f k in
      let there : R b (f m) (g m) = al.at m (omega (arith, highest-up-to S f k)) in
      choose-alike ◌≡◌ _ _ (F.gt (al.at k h) (subst (λ (q : ℕ). R b (f m) (g q)) ih there)) refl ih

  -- ---- a pass, from any start scores that stand for one another

  module _ {b : ℕ} {f : ℕ → A} {g : ℕ → B} (start : Alike b f g) (room : (b + n * M) + (b + n * M) ≤ cap) where
    brings-alike : (j : ℕ) → j < n → Alike (b + j * M) (scores X f j) (scores Y g j) → (r : ℕ) → r < N + N
        → R (b + suc j * M) (brings X (scores X f j) j r) (brings Y (scores Y g j) j r)
    brings-alike j h ih r k =
        let more : suc j * M ≤ n * M = mul-le-mul_right M h in
        F.wider {a = b + j * M + M} (omega arith) (F.add (ih.at (r / 2) (omega arith)) (F.term (earns j r h k)) (omega arith))

    upper-alike : (j : ℕ) → j < n → Alike (b + j * M) (scores X f j) (scores Y g j) → (s : ℕ) → s < N
        → upper X (scores X f j) j s ≡ upper Y (scores Y g j) j s
    upper-alike j h ih s l = F.gt (brings-alike j h ih (s + N) (omega arith)) (brings-alike j h ih s (omega arith))

    pub scores-alike : (j : ℕ) → j ≤ n → Alike (b + j * M) (scores X f j) (scores Y g j)
    unfolding scores
    scores-alike zero h = record { at = λ s l. F.wider (omega arith) (start.at s l) }
    scores-alike (suc j) h =
        let ih = scores-alike j (omega arith) in
        record {
          at = λ s l.
              choose-alike (R (b + suc j * M)) _ _ (upper-alike j h ih s l) (brings-alike j h ih (s + N) (omega arith)) (brings-alike j h ih s (omega arith));
        }

    pub decision-alike : (j s : ℕ) → j < n → s < N → decision X f j s ≡ decision Y g j s
    unfolding decision
    decision-alike j s h l = upper-alike j h (scores-alike j (omega arith)) s l

    pub start-alike : (s : ℕ) → s < N → start_of X f s ≡ start_of Y g s
    start-alike s l = trace-start-cong even n decision-alike n s (omega arith) l

    pub word-alike : (s : ℕ) → s < N → word_of X f s ≡ word_of Y g s
    word-alike s l = trace-word-cong even n decision-alike n s (omega arith) l

    pub final-alike : Alike (b + n * M) (final X f) (final Y g)
    final-alike = scores-alike n (omega arith)

    pub score-alike : (s : ℕ) → s < N → R cap (score_of X f s) (score_of Y g s)
    score-alike s l =
        let p = start_of X f s in
        let there : R b (f p) (g p) = start.at p (trace-start-lt even (decision X f) n l) in
        F.wider {a = b + n * M + b} (omega arith)
        (F.sub (final-alike.at s l) (subst (λ (q : ℕ). R b (f p) (g q)) (start-alike s l) there) (omega arith))

    -- also of a state whose traceback does not close
    pub gain-alike : (s : ℕ) → s < N → R cap (gain_of X f s) (gain_of Y g s)
    gain-alike s l = F.wider {a = b + n * M + b} (omega arith) (F.sub (final-alike.at s l) (start.at s l) (omega arith))

    pub top-alike : R cap (top_of X f) (top_of Y g)
    top-alike =
        subst (λ (s : ℕ). R cap (top_of X f) (gain_of Y g s)) (highest-alike (gain_of X f) (gain_of Y g) (record { at = gain-alike }) N (omega arith))
        (gain-alike _ (highest-lt S (gain_of X f) N some-state))

    pub closes-alike : (s : ℕ) → s < N → closes X f s ≡ closes Y g s
    closes-alike s l = ap (λ (p : ℕ). eqb p s) (start-alike s l)

    pub candidates-alike : (o : Option (Candidate A)) (p : Option (Candidate B)) → SameBest (R cap) o p → (k : ℕ) → k ≤ N
        → SameBest (R cap) (candidates X f o k) (candidates Y g p k)
    unfolding candidates
    candidates-alike o p h zero l = h
    candidates-alike o p h (suc k) l =
        let ih = candidates-alike o p h k (omega arith) in
        choose-alike (SameBest (R cap)) _ _ (ap₂ ◌&&◌ (closes-alike k l) (beats-alike F ih (gain-alike k l)))
        (both (word-alike k l) (gain-alike k l)) ih

    end_lt : end_state X f < N
    end_lt = highest-lt S (final X f) N some-state

    pub end-alike : end_state X f ≡ end_state Y g
    end-alike = highest-alike _ _ final-alike N (omega arith)

    pub lowered-alike : Alike ((b + n * M) + (b + n * M)) (lowered X f) (lowered Y g)
    lowered-alike =
        record {
          at = λ s l.
              F.sub (final-alike.at s l)
              (subst (λ (q : ℕ). R (b + n * M) (final X f (end_state X f)) (final Y g q)) end-alike (final-alike.at _ end_lt)) room;
        }

  -- ---- the passes, of which there are three

  module _ (room : reach (n * M) 3 ≤ cap) where
    pass-room : (k : ℕ) → k ≤ 2 → (reach (n * M) k + n * M) + (reach (n * M) k + n * M) ≤ cap
    unfolding reach
    pass-room k h = le_trans (reach-up (n * M) (suc k) 3 (omega arith)) room

    begin-alike : (k : ℕ) → k ≤ 2 → Alike (reach (n * M) k) (begin X k) (begin Y k)
    unfolding begin reach
    begin-alike zero h = record { at = λ s l. F.nil }
    begin-alike (suc k) h = lowered-alike (begin-alike k (omega arith)) (pass-room k (omega arith))

    closes_in-alike : (k : ℕ) → k ≤ 2 → closes_in X k ≡ closes_in Y k
    unfolding closes_in
    closes_in-alike k h =
        closes-alike (begin-alike k h) (pass-room k h) _ (end_lt (begin-alike k h) (pass-room k h))
        ∙ ap (λ (s : ℕ). closes Y (begin Y k) s) (end-alike (begin-alike k h) (pass-room k h))

    last-alike : last X ≡ last Y
    unfolding last
    last-alike = ap₂ (λ (c d : Bool). choose c 0 (choose d 1 2)) (closes_in-alike 0 (omega arith)) (closes_in-alike 1 (omega arith))

    ceiling_to-alike : (k : ℕ) → k ≤ 2 → R cap (ceiling_to X k) (ceiling_to Y k)
    unfolding ceiling_to
    ceiling_to-alike zero h = top-alike (begin-alike zero h) (pass-room zero h)
    ceiling_to-alike (suc k) h =
        let low = ceiling_to-alike k (omega arith) in
        let top = top-alike (begin-alike (suc k) h) (pass-room (suc k) h) in
        choose-alike (R cap) _ _ (F.gt low top) top low

    best-alike : (k : ℕ) → k ≤ 3 → SameBest (R cap) (best X k) (best Y k)
    unfolding best
    best-alike zero h = neither
    best-alike (suc k) h =
        candidates-alike (begin-alike k (omega arith)) (pass-room k (omega arith)) _ _ (best-alike k (omega arith)) N (omega arith)

    word_in-alike : (how : How) (k : ℕ) → k ≤ 2 → Same (R cap) (word_in X how k) (word_in Y how k)
    word_in-alike how k h =
        let al = begin-alike k h in
        let r = pass-room k h in
        let e = end_lt al r in
        record {
          how = refl;
          word = word-alike al r _ e ∙ ap (λ (s : ℕ). word_of Y (begin Y k) s) (end-alike al r);
          score =
              subst (λ (s : ℕ). R cap (score_of X (begin X k) (end_state X (begin X k))) (score_of Y (begin Y k) s)) (end-alike al r)
              (score-alike al r _ e);
        }

    settled-alike : {o : Option (Candidate A)} {p : Option (Candidate B)} → SameBest (R cap) o p → Same (R cap) (settled X o) (settled Y p)
    unfolding settled
    settled-alike neither = word_in-alike _ 2 (omega arith)
    settled-alike (both w r) = record { how = refl; word = w; score = r }

    -- SIMULATION, of a pass and of the whole search
    pub pass-alike : (k : ℕ) → k ≤ 2 → SamePass (R cap) X Y k
    pass-alike k h =
        let al = begin-alike k h in
        let r = pass-room k h in
        record {
          scores = λ j s hj hs. let more : j * M ≤ n * M = mul-le-mul_right M hj in F.wider (omega arith) ((scores-alike al r j hj).at s hs);
          decisions = decision-alike al r;
          starts = start-alike al r;
          words = word-alike al r;
          word-scores = score-alike al r;
          gains = gain-alike al r;
          ends = end-alike al r;
        }

    pub search-alike : Same (R cap) (search X) (search Y)
    unfolding search
    search-alike =
        let w = word_in-alike (closing (suc (last X))) (last X) (last-most X) in
        choose-alike (Same (R cap)) _ _ (closes_in-alike (last X) (last-most X) ∙ ap (closes_in Y) last-alike)
        (subst (λ (k : ℕ). Same (R cap) (word_in X (closing (suc (last X))) (last X)) (word_in Y (closing (suc k)) k)) last-alike w)
        (settled-alike (best-alike 3 (omega arith)))

    pub ceiling-alike : R cap (ceiling X) (ceiling Y)
    unfolding ceiling
    ceiling-alike = subst (λ (k : ℕ). R cap (ceiling X) (ceiling_to Y k)) last-alike (ceiling_to-alike (last X) (last-most X))
