-- What the search hands out. Over any numbers: a word of n bits. Where sums can be taken back (`Group`): a closed word with exactly what it
-- earns, in any pass. Where the steps keep an order (`Ranked`): in the first pass such a word, the best of all walks, and any walk that closes
-- and beats all others. Assumes nothing.
use Prim.Native.Nat.{ℕ, zero, suc, ◌%◌, ◌^◌, ◌≤◌, ◌<◌}
use mathlib.Core.Path.{◌≡◌, refl, sym, ap, ap₂, ◌∙◌, subst}
use mathlib.Core.Bool.{Bool, true, false, true≢false, ◌&&◌}
use mathlib.Core.Option.{Option, none, some}
use native.Mathlib.Decide.{ℕ_discrete}
use native.Mathlib.Omega.{arith}
use lib.Dec.{T, eqb, eqb→eq, eqb_refl}
use lib.Ieee.Bits.{is_true}
use Rattle.util.specs.Choose.{choose}
use Rattle.ieee.specs.Whole.{run}
use Rattle.conv.specs.Encoder.{state, walk_register, bit}
use Rattle.trellis.specs.Scale.{Scale}
use Rattle.trellis.specs.Trellis.{Trellis, walk_score}
use Rattle.trellis.specs.Search.{How, closing, candidate, unclosed, Candidate, Found, decision, final, end_state, start_of, word_of}
use Rattle.trellis.specs.Search.{closes, score_of, gain_of, candidates, begin, closes_in, last, best, word_in, settled, search}
use Rattle.trellis.proofs.Paths.{trace-state, trace-start-lt, trace-word-lt}
use Rattle.trellis.proofs.Best.{Ranked, along, attained, scores-ok, end-greatest, highest-lt}

-- the word has n bits and is that of a walk that ends where it starts, and the score is what this walk earns
pub record Closing {A : Type 0} (X : Trellis A) (word : ℕ) (score : A) : Type 0 where
  pub short : word < 2 ^ X.steps
  pub start : ℕ
  pub start-lt : start < X.states
  pub closed : state X.states start (bit word) X.steps ≡ start
  pub earned : walk_score X start word ≡ score

-- what holds of a candidate's word and gain, if there is one
data Each {A : Type 0} (P : ℕ → A → Type 0) : Option (Candidate A) → Type 0 where
  no-best : Each P none
  a-best : {c : Candidate A} → P c.word c.gain → Each P (some c)

-- What is asked of the numbers for a word of any pass: what was added can be taken away again.
pub record Group {A : Type 0} (S : Scale A) : Type 0 where
  pub add-nil : (a : A) → S.add a S.nil ≡ a
  pub add_assoc : (a b c : A) → S.add (S.add a b) c ≡ S.add a (S.add b c)
  pub add-sub : (a b : A) → S.sub (S.add a b) a ≡ b

-- How a search that ran n passes ended: by closing in the last of them; or, where this was the third, with a candidate, or with neither.
pub data Ended (n : ℕ) : How → Type 0 where
  by-closing : Ended n (closing n)
  by-candidate : n ≡ 3 → Ended n candidate
  by-neither : n ≡ 3 → Ended n unclosed

-- tells the ways apart
abbrev pub pass_of : How → ℕ
pass_of (closing pass) = pass
pass_of candidate = 0
pass_of unclosed = 0

module _ {A : Type 0} (X : Trellis A) where
  -- what the search takes, by whether the last pass closes
  abbrev picked : Bool → Found A
  picked c = choose c (word_in X (closing (suc (last X))) (last X)) (settled X (best X 3))

  -- ---- a word of the first pass

  pub first-last : T (closes_in X 0) → last X ≡ 0
  unfolding last
  first-last t = ap (λ (c : Bool). choose c 0 (choose (closes_in X 1) 1 2)) (is_true (closes_in X 0) t)

  pub first_out : T (closes_in X 0) → search X ≡ word_in X (closing 1) 0
  unfolding search
  first_out t =
      ap (λ (k : ℕ). choose (closes_in X k) (word_in X (closing (suc k)) k) (settled X (best X 3))) (first-last t)
      ∙ ap (λ (c : Bool). choose c (word_in X (closing 1) 0) (settled X (best X 3))) (is_true (closes_in X 0) t)

  -- what three passes leave is not out by closing
  not-closing : (o : Option (Candidate A)) (p : ℕ) → (settled X o).how ≡ closing p → ⊥
  unfolding settled
  not-closing none p e = let z : ◌≡◌ {A = ℕ} 0 1 = cc in omega arith
  not-closing (some c) p e = let z : ◌≡◌ {A = ℕ} 0 1 = cc in omega arith

  -- pass 1 is said of the first pass alone
  pub first-closes : (search X).how ≡ closing 1 → T (closes_in X 0)
  unfolding search last
  first-closes e = which (closes_in X 0) (closes_in X 1) (at_zero (closes_in X (last X)) e)
    where
      at_zero : (c : Bool) → (picked c).how ≡ closing 1 → last X ≡ 0
      at_zero true e = let z : suc (last X) ≡ 1 = ap pass_of e in omega arith
      at_zero false e = absurd (not-closing (best X 3) 1 e)

      which : (c d : Bool) → ◌≡◌ {A = ℕ} (choose c 0 (choose d 1 2)) 0 → T c
      which true d e = tt
      which false true e = omega arith
      which false false e = omega arith

  -- ---- the pass is 1, 2 or 3

  pub last-most : last X ≤ 2
  unfolding last
  last-most = go (closes_in X 0) (closes_in X 1)
    where
      go : (c d : Bool) → choose c 0 (choose d 1 2) ≤ 2
      go true d = omega arith
      go false true = omega arith
      go false false = omega arith

  pub closing-pass : (p : ℕ) → (search X).how ≡ closing p → (1 ≤ p) × (p ≤ 3)
  unfolding search
  closing-pass p e = go (closes_in X (last X)) e
    where
      go : (c : Bool) → (picked c).how ≡ closing p → (1 ≤ p) × (p ≤ 3)
      go true e = let z : suc (last X) ≡ p = ap pass_of e in (omega arith, omega (arith, last-most))
      go false e = absurd (not-closing (best X 3) p e)

  -- ---- the pass is the last one run, and a candidate comes after the third

  third : closes_in X (last X) ≡ false → last X ≡ 2
  unfolding last
  third e = which (closes_in X 0) (closes_in X 1) refl refl e
    where
      which : (c d : Bool) → closes_in X 0 ≡ c → closes_in X 1 ≡ d → closes_in X (choose c 0 (choose d 1 2)) ≡ false
          → ◌≡◌ {A = ℕ} (choose c 0 (choose d 1 2)) 2
      which true d p q e = absurd (true≢false (sym p ∙ e))
      which false true p q e = absurd (true≢false (sym q ∙ e))
      which false false p q e = refl

  settled-ended : (o : Option (Candidate A)) {n : ℕ} → n ≡ 3 → Ended n (settled X o).how
  unfolding settled
  settled-ended none e = by-neither e
  settled-ended (some c) e = by-candidate e

  pub ended : Ended (suc (last X)) (search X).how
  unfolding search
  ended = go (closes_in X (last X)) refl
    where
      go : (c : Bool) → closes_in X (last X) ≡ c → Ended (suc (last X)) (picked c).how
      go true e = by-closing
      go false e = settled-ended (best X 3) (ap suc (third e))

  -- ---- closing states

  -- what holds of every state's word and gain where its traceback closes, in each pass, holds of the best candidate,
  module _ (P : ℕ → A → Type 0)
      (each : (k s : ℕ) → k ≤ 2 → s < X.states → T (closes X (begin X k) s) → P (word_of X (begin X k) s) (gain_of X (begin X k) s)) where
    one_more : (k s : ℕ) (b : Option (Candidate A)) → k ≤ 2 → s < X.states → Each P b → (c d : Bool) → closes X (begin X k) s ≡ c
        → Each P (choose (c && d) (some (record { word = word_of X (begin X k) s; gain = gain_of X (begin X k) s })) b)
    one_more k s b l h g true true e = a-best (each k s l h (rw e tt))
    one_more k s b l h g true false e = g
    one_more k s b l h g false d e = g

    candidates-each : (k : ℕ) (b : Option (Candidate A)) (m : ℕ) → k ≤ 2 → m ≤ X.states → Each P b → Each P (candidates X (begin X k) b m)
    unfolding candidates
    candidates-each k b zero l h g = g
    candidates-each k b (suc m) l h g = one_more k m _ l h (candidates-each k b m l (omega arith) g) _ _ refl

    best-each : (k : ℕ) → k ≤ 3 → Each P (best X k)
    unfolding best
    best-each zero l = no-best
    best-each (suc k) l = candidates-each k (best X k) X.states (omega arith) (omega arith) (best-each k (omega arith))

    settled-each : (o : Option (Candidate A)) → Each P o → ((settled X o).how ≡ unclosed → ⊥) → P (settled X o).word (settled X o).score
    unfolding settled
    settled-each none g out = absurd (out refl)
    settled-each (some c) (a-best g) out = g

    -- and so of whatever is not handed out as unclosed: a word that is out by closing has its end state's gain for its score
    pub search-each : 0 < X.states → ((search X).how ≡ unclosed → ⊥) → P (search X).word (search X).score
    unfolding search closes_in
    search-each some-state = go (closes_in X (last X)) refl
      where
        go : (c : Bool) → closes_in X (last X) ≡ c → ((picked c).how ≡ unclosed → ⊥) → P (picked c).word (picked c).score
        go true e out =
            let f = begin X (last X) in
            let s = end_state X f in
            let t : T (closes X f s) = rw e tt in
            subst (λ (p : ℕ). P (word_of X f s) (X.scale.sub (final X f s) (f p))) (sym (eqb→eq _ _ t))
            (each (last X) s last-most (highest-lt X.scale (final X f) X.states some-state) t)
        go false e out = settled-each (best X 3) (best-each 3 (omega arith)) out

  -- ---- the word has n bits

  settled-short : (o : Option (Candidate A)) → Each (λ w x. w < 2 ^ X.steps) o → (settled X o).word < 2 ^ X.steps
  unfolding settled
  settled-short none g = trace-word-lt X.states (decision X (begin X 2)) X.steps _
  settled-short (some c) (a-best g) = g

  pub search-short : (search X).word < 2 ^ X.steps
  unfolding search
  search-short = go (closes_in X (last X))
    where
      go : (c : Bool) → (picked c).word < 2 ^ X.steps
      go true = trace-word-lt X.states (decision X (begin X (last X))) X.steps _
      go false = settled-short (best X 3) (best-each (λ w x. w < 2 ^ X.steps) (λ k s l h t. trace-word-lt X.states (decision X (begin X k)) X.steps s) 3 (omega arith))

  -- ---- a traceback that closes, where its score is what its walk earns

  module _ (even : X.states % 2 ≡ 0) (some-state : 0 < X.states) where
    pub end_lt : (f : ℕ → A) → end_state X f < X.states
    end_lt f = highest-lt X.scale (final X f) X.states some-state

    traced-closing : (f : ℕ → A) {s : ℕ} → s < X.states → walk_score X (start_of X f s) (word_of X f s) ≡ score_of X f s
        → T (closes X f s) → Closing X (word_of X f s) (score_of X f s)
    traced-closing f {s} h earned t =
        record {
          short = trace-word-lt X.states (decision X f) X.steps s;
          start = start_of X f s;
          start-lt = trace-start-lt even (decision X f) X.steps h;
          closed = trace-state X.states even (decision X f) X.steps h ∙ sym (eqb→eq _ _ t);
          earned = earned;
        }

-- ---- any pass

module _ {A : Type 0} (X : Trellis A) (G : Group X.scale) where
  -- a walk's score counted on from a is a with the walk's score added
  pub along-from : (a : A) (p w j : ℕ) → along X a p w j ≡ X.scale.add a (along X X.scale.nil p w j)
  unfolding run
  along-from a p w zero = sym (G.add-nil a)
  along-from a p w (suc j) =
      ap (λ (x : A). X.scale.add x (X.earn j (walk_register X.states p (bit w) j))) (along-from a p w j) ∙ G.add_assoc a _ _

module _ {A : Type 0} (X : Trellis A) (G : Group X.scale) (even : X.states % 2 ≡ 0) (some-state : 0 < X.states) where
  -- EXACT, of one traceback: its word's score is what its walk earns
  pub gained : (f : ℕ → A) {s : ℕ} → s < X.states → walk_score X (start_of X f s) (word_of X f s) ≡ score_of X f s
  gained f {s} h =
      let p = start_of X f s in
      let w = word_of X f s in
      sym (G.add-sub (f p) (walk_score X p w))
      ∙ ap (λ (x : A). X.scale.sub x (f p)) (sym (along-from X G (f p) p w X.steps) ∙ attained X even f X.steps h)

  -- a candidate's gain is its word's score
  gain-closing : (f : ℕ → A) {s : ℕ} → s < X.states → T (closes X f s) → Closing X (word_of X f s) (gain_of X f s)
  gain-closing f {s} h t =
      subst (λ (p : ℕ). Closing X (word_of X f s) (X.scale.sub (final X f s) (f p))) (eqb→eq _ _ t)
      (traced-closing X even some-state f h (gained f h) t)

  -- EXACT, of whatever is not handed out as unclosed, in any pass
  pub search-exact : ((search X).how ≡ unclosed → ⊥) → Closing X (search X).word (search X).score
  search-exact = search-each X (Closing X) (λ k s l h t. gain-closing (begin X k) h t) some-state

-- ---- the first pass

module _ {A : Type 0} (X : Trellis A) {le : A → A → Type 0} {ok : ℕ → A → Type 0} (L : Ranked X le ok)
    (even : X.states % 2 ≡ 0) (some-state : 0 < X.states) where
  abbrev zeros : ℕ → A
  zeros = begin X 0

  abbrev end : ℕ
  end = end_state X zeros

  there : end < X.states
  there = end_lt X even some-state zeros

  -- the start scores are nil, so the score of the first pass's word is the end score,
  end-score : score_of X zeros end ≡ final X zeros end
  unfolding begin
  end-score = L.sub-nil (scores-ok X L zeros (λ s l. L.nil-ok) X.steps (omega arith) there)

  -- which is what its walk earns
  first-gained : walk_score X (start_of X zeros end) (word_of X zeros end) ≡ score_of X zeros end
  unfolding begin
  first-gained = attained X even zeros X.steps there ∙ sym end-score

  -- no walk scores more than the word of the first pass
  end-best : {p : ℕ} → p < X.states → (w : ℕ) → le (walk_score X p w) (score_of X zeros end)
  unfolding begin
  end-best {p} h w = subst (λ (x : A). le (walk_score X p w) x) (sym end-score) (end-greatest X L zeros (λ s l. L.nil-ok) h w)

  -- EXACT
  pub first-exact : (search X).how ≡ closing 1 → Closing X (search X).word (search X).score
  unfolding closes_in
  first-exact e =
      subst (λ (a : Found A). Closing X a.word a.score) (sym (first_out X (first-closes X e)))
      (traced-closing X even some-state zeros there first-gained (first-closes X e))

  -- OPTIMAL
  pub search-optimal : (search X).how ≡ closing 1 → {p : ℕ} → p < X.states → (w : ℕ) → le (walk_score X p w) (search X).score
  search-optimal e {p} h w = subst (λ (a : Found A). le (walk_score X p w) a.score) (sym (first_out X (first-closes X e))) (end-best h w)

  -- UNIQUE: a walk that closes and scores more than every other walk is the one traced back in the first pass, and its word is out
  module _ (p w : ℕ) (h : p < X.states) (closed : state X.states p (bit w) X.steps ≡ p)
      (beats-all : (q v : ℕ) → q < X.states → v < 2 ^ X.steps → ((q ≡ p) × (v ≡ w) → ⊥) → T (X.scale.gt (walk_score X p w) (walk_score X q v))) where
    abbrev start : ℕ
    start = start_of X zeros end

    -- the end state's word is no other walk, since none scores more than it
    no_other : ((start ≡ p) × (word_of X zeros end ≡ w) → ⊥) → ⊥
    no_other other =
        let start-lt = trace-start-lt even (decision X zeros) X.steps there in
        let word_lt = trace-word-lt X.states (decision X zeros) X.steps end in
        L.gt_not_le (beats-all start (word_of X zeros end) start-lt word_lt other) (rw first-gained (end-best h w))

    is-it : Dec (start ≡ p) → Dec (word_of X zeros end ≡ w) → (start ≡ p) × (word_of X zeros end ≡ w)
    is-it (yes e) (yes e') = (e, e')
    is-it (yes e) (no g) = absurd (no_other (λ s. g s.1))
    is-it (no g) d = absurd (no_other (λ s. g s.0))

    same : (start ≡ p) × (word_of X zeros end ≡ w)
    same = is-it (ℕ_discrete start p) (ℕ_discrete (word_of X zeros end) w)

    -- so its traceback ends where it began
    meets : start ≡ end
    meets =
        same.0 ∙ sym closed ∙ sym (ap₂ (λ (q v : ℕ). state X.states q (bit v) X.steps) same.0 same.1)
        ∙ trace-state X.states even (decision X zeros) X.steps there

    out : T (closes_in X 0)
    unfolding closes_in
    out = subst (λ (s : ℕ). T (eqb start s)) meets (eqb_refl start)

    pub search-unique : ((search X).word ≡ w) × ((search X).how ≡ closing 1)
    search-unique = (ap (λ (a : Found A). a.word) (first_out X out) ∙ same.1, ap (λ (a : Found A). a.how) (first_out X out))
