-- A pass finds the best walks, from any start scores, where the order is one that the steps keep (`Ranked`): no walk to a state is above the
-- state's score (BOUND), the walk traced back from it has that score (ATTAINED), and the end state's is the greatest. Assumes nothing.
use Prim.Native.Nat.{ℕ, zero, suc, ◌+◌, ◌/◌, ◌%◌, ◌≤◌, ◌<◌}
use mathlib.Core.Path.{◌≡◌, refl, sym, ap, ap₂, ◌∙◌, subst}
use mathlib.Core.Bool.{Bool, true, false, not}
use native.Mathlib.Nat.{mod-lt}
use native.Mathlib.Decide.{ℕ_discrete}
use native.Mathlib.Omega.{arith}
use lib.Dec.{T}
use Rattle.util.specs.Choose.{choose}
use Rattle.ieee.specs.Whole.{run}
use Rattle.ieee.proofs.Folds.{run-same}
use Rattle.conv.specs.Encoder.{register, state, walk_register, bit}
use Rattle.conv.proofs.Closed.{state-below}
use Rattle.conv.proofs.Bits.{state-cong}
use Rattle.trellis.specs.Scale.{Scale, highest}
use Rattle.trellis.specs.Trellis.{Trellis}
use Rattle.trellis.specs.Search.{came_by, trace_start, trace_word, brings, upper, step, scores, decision, final, end_state}
use Rattle.trellis.proofs.Paths.{register-came, bit-lt, trace-bit, trace-register, before, before-lt}

-- What is asked of a trellis: an order `le` of its numbers that each step keeps, and that the test decides on those that can be scores. `ok j a`
-- says that a can be a score after j steps. No sum need be exact.
pub record Ranked {A : Type 0} (X : Trellis A) (le : A → A → Type 0) (ok : ℕ → A → Type 0) : Type 0 where
  pub le_refl : {j : ℕ} {a : A} → ok j a → le a a
  pub le_trans : {a b c : A} → le a b → le b c → le a c
  pub gt-le : {a b : A} → T (X.scale.gt a b) → le b a
  pub not-gt-le : {j : ℕ} {a b : A} → ok j a → ok j b → T (not (X.scale.gt a b)) → le a b
  pub gt_not_le : {a b : A} → T (X.scale.gt a b) → le a b → ⊥
  pub nil-ok : ok 0 X.scale.nil
  pub step_ok : {j r : ℕ} {a : A} → j < X.steps → r < X.states + X.states → ok j a → ok (suc j) (X.scale.add a (X.earn j r))
  pub step-le : {j r : ℕ} {a b : A} → j < X.steps → r < X.states + X.states → ok j a → ok j b → le a b
      → le (X.scale.add a (X.earn j r)) (X.scale.add b (X.earn j r))
  pub sub-nil : {j : ℕ} {a : A} → ok j a → X.scale.sub a X.scale.nil ≡ a

-- ---- the lowest of the greatest, of any function

-- it is one of the k first
choose-le : (t : Bool) {k m : ℕ} → m ≤ k → choose t k m ≤ k
choose-le true h = omega arith
choose-le false h = h

pub highest-up-to : {A : Type 0} (S : Scale A) (f : ℕ → A) (k : ℕ) → highest S f k ≤ k
unfolding highest
highest-up-to S f zero = omega arith
highest-up-to S f (suc k) = omega (arith, choose-le (S.gt (f k) (f (highest S f k))) (highest-up-to S f k))

pub highest-lt : {A : Type 0} (S : Scale A) (f : ℕ → A) (k : ℕ) → 0 < k → highest S f k < k
unfolding highest
highest-lt S f zero h = absurd (omega arith)
highest-lt S f (suc k) h = omega (arith, choose-le (S.gt (f k) (f (highest S f k))) (highest-up-to S f k))

-- a function in place of another that agrees with it there
pub highest-same : {A : Type 0} (S : Scale A) (f g : ℕ → A) (k : ℕ) → ((s : ℕ) → s < k → f s ≡ g s) → highest S f k ≡ highest S g k
unfolding highest
highest-same S f g zero e = refl
highest-same S f g (suc k) e =
    let ih : highest S f k ≡ highest S g k = highest-same S f g k (λ s h. e s (omega arith)) in
    let last : f k ≡ g k = e k (omega arith) in
    let best : f (highest S f k) ≡ g (highest S f k) = e (highest S f k) (omega (arith, highest-up-to S f k)) in
    cc

module _ {A : Type 0} {X : Trellis A} {le : A → A → Type 0} {ok : ℕ → A → Type 0} (L : Ranked X le ok) where
  -- of two things with a score, the one that the test takes scores at least as much as each
  choice-left : {j : ℕ} {Y : Type 0} (f : Y → A) (x y : Y) → ok j (f x) → (t : Bool) → X.scale.gt (f y) (f x) ≡ t → le (f x) (f (choose t y x))
  choice-left f x y h true e = L.gt-le (rw e tt)
  choice-left f x y h false e = L.le_refl h

  choice-right : {j : ℕ} {Y : Type 0} (f : Y → A) (x y : Y) → ok j (f x) → ok j (f y) → (t : Bool) → X.scale.gt (f y) (f x) ≡ t
      → le (f y) (f (choose t y x))
  choice-right f x y h k true e = L.le_refl k
  choice-right f x y h k false e = L.not-gt-le k h (rw e tt)

  -- a table whose first k can be scores after j steps
  pub record Scores (j k : ℕ) (f : ℕ → A) : Type 0 where
    pub at : (s : ℕ) → s < k → ok j (f s)

  fewer : {j k : ℕ} {f : ℕ → A} → Scores j (suc k) f → Scores j k f
  fewer o = record { at = λ s l. o.at s (omega arith) }

  top-ok : {j k : ℕ} {f : ℕ → A} → Scores j (suc k) f → ok j (f (highest X.scale f k))
  top-ok {k = k} {f = f} o = o.at _ (omega (arith, highest-up-to X.scale f k))

  highest-more : {j : ℕ} (f : ℕ → A) (k : ℕ) {s : ℕ} → Scores j (suc k) f → (s < k → le (f s) (f (highest X.scale f k))) → s < suc k → Dec (s ≡ k)
      → le (f s) (f (highest X.scale f (suc k)))
  unfolding highest
  highest-more f k o ih h (yes q) = rw q (choice-right f (highest X.scale f k) k (top-ok o) (o.at k (omega arith)) _ refl)
  highest-more f k o ih h (no n) = L.le_trans (ih (omega arith)) (choice-left f (highest X.scale f k) k (top-ok o) _ refl)

  -- none of the k first is above it
  pub highest-le : {j : ℕ} (f : ℕ → A) (k : ℕ) {s : ℕ} → Scores j k f → s < k → le (f s) (f (highest X.scale f k))
  highest-le f zero o h = absurd (omega arith)
  highest-le f (suc k) {s} o h = highest-more f k o (λ l. highest-le f k (fewer o) l) h (ℕ_discrete s k)

  -- and each lower one is strictly below it
  gt-above : {j : ℕ} {a b c : A} → ok j a → ok j c → T (X.scale.gt a b) → le c b → T (X.scale.gt a c)
  gt-above {a = a} {c = c} o p t l = go (X.scale.gt a c) refl
    where
      go : (d : Bool) → X.scale.gt a c ≡ d → T d
      go true e = tt
      go false e = absurd (L.gt_not_le t (L.le_trans (L.not-gt-le o p (rw e tt)) l))

  lower-more : {j : ℕ} (f : ℕ → A) (k : ℕ) {s : ℕ} → Scores j (suc k) f
      → (s < highest X.scale f k → T (X.scale.gt (f (highest X.scale f k)) (f s))) → (t : Bool)
      → X.scale.gt (f k) (f (highest X.scale f k)) ≡ t
      → s < choose t k (highest X.scale f k) → T (X.scale.gt (f (choose t k (highest X.scale f k))) (f s))
  lower-more f k {s} o ih true e h = gt-above (o.at k (omega arith)) (o.at s (omega arith)) (rw e tt) (highest-le f k (fewer o) h)
  lower-more f k o ih false e h = ih h

  pub highest-lowest : {j : ℕ} (f : ℕ → A) (k : ℕ) {s : ℕ} → Scores j k f → s < highest X.scale f k
      → T (X.scale.gt (f (highest X.scale f k)) (f s))
  unfolding highest
  highest-lowest f zero o h = absurd (omega arith)
  highest-lowest f (suc k) o h = lower-more f k o (λ l. highest-lowest f k (fewer o) l) _ refl h

-- ---- a pass

module _ {A : Type 0} (X : Trellis A) where
  -- the score of the walk from p with the word w after j steps, counted on from a
  abbrev pub along : A → ℕ → ℕ → ℕ → A
  along a p w j = run X.scale.add a (λ i. X.earn i (walk_register X.states p (bit w) i)) j

  -- it turns on the first j bits alone
  along-cong : (a : A) (p v w j : ℕ) → ((i : ℕ) → i < j → bit v i ≡ bit w i) → along a p v j ≡ along a p w j
  along-cong a p v w j h =
      run-same X.scale.add a _ _ j
      (λ i l. ap (X.earn i) (ap₂ register (state-cong X.states p (bit v) (bit w) i (λ q k. h q (omega arith))) (h i l)))

  -- the table after a step holds what the register decided for brings
  step-came : (g : ℕ → A) (j s : ℕ) (t : Bool)
      → choose t (brings X g j (s + X.states)) (brings X g j s) ≡ brings X g j (came_by X.states t s)
  step-came g j s true = refl
  step-came g j s false = refl

  module _ (even : X.states % 2 ≡ 0) (f : ℕ → A) where
    -- ATTAINED. The score of a state is what the walk scores that is traced back from it, counted on from its start's score.
    pub attained : (j : ℕ) {s : ℕ} → s < X.states
        → along (f (trace_start X.states (decision X f) j s)) (trace_start X.states (decision X f) j s) (trace_word X.states (decision X f) j s) j
        ≡ scores X f j s
    unfolding run scores decision trace_start before
    attained zero h = refl
    attained (suc j) {s} h =
        ap₂ (λ (x : A) (r : ℕ). X.scale.add x (X.earn j r))
        (along-cong _ _ _ _ j (trace-bit X.states even (decision X f) j s) ∙ attained j (before-lt X.states even (decision X f) j h))
        (trace-register X.states even (decision X f) j h)
        ∙ sym (step-came (scores X f j) j s (decision X f j s))

module _ {A : Type 0} (X : Trellis A) {le : A → A → Type 0} {ok : ℕ → A → Type 0} (L : Ranked X le ok) where
  brings-ok : {g : ℕ → A} {j r : ℕ} → Scores L j X.states g → j < X.steps → r < X.states + X.states → ok (suc j) (brings X g j r)
  brings-ok {r = r} o h l = L.step_ok h l (o.at (r / 2) (omega arith))

  -- a step's table is at least what either register brings
  table-le : {g : ℕ → A} {j : ℕ} (s : ℕ) → Scores L j X.states g → j < X.steps → s < X.states → (d : Bool)
      → le (brings X g j (came_by X.states d s)) (step X g j s)
  table-le {g} {j} s o h l false =
      choice-left L (λ (a : A). a) (brings X g j s) (brings X g j (s + X.states)) (brings-ok o h (omega arith)) _ refl
  table-le {g} {j} s o h l true =
      choice-right L (λ (a : A). a) (brings X g j s) (brings X g j (s + X.states)) (brings-ok o h (omega arith)) (brings-ok o h (omega arith)) _ refl

  -- so it is at least what one more step from a state makes of any score up to the state's
  step-above : {g : ℕ → A} {j q b : ℕ} {x : A} → Scores L j X.states g → j < X.steps → q < X.states → b < 2 → ok j x → le x (g q)
      → le (X.scale.add x (X.earn j (register q b))) (step X g j (register q b % X.states))
  step-above {g} {j} {q} {b} {x} o hj h hb k l =
      let (d, c) = register-came X.states (register q b) (omega arith) in
      let half : register q b / 2 ≡ q = omega arith in
      L.le_trans (L.step-le hj (omega arith) k (o.at q h) l)
      (subst (λ (i : ℕ). le (X.scale.add (g i) (X.earn j (register q b))) (step X g j (register q b % X.states))) half
      (rw c at (table-le (register q b % X.states) o hj (mod-lt (register q b) (omega arith)) d)))

  -- ---- from any start scores

  module _ (f : ℕ → A) (start : (s : ℕ) → s < X.states → ok 0 (f s)) where
    pub scores-ok : (j : ℕ) → j ≤ X.steps → {s : ℕ} → s < X.states → ok j (scores X f j s)
    unfolding scores
    scores-ok zero h {s} l = start s l
    scores-ok (suc j) h {s} l =
        let o : Scores L j X.states (scores X f j) = record { at = λ i k. scores-ok j (omega arith) k } in
        either (upper X (scores X f j) j s) (brings-ok o h (omega arith)) (brings-ok o h (omega arith))
      where
        either : (t : Bool) {x y : A} → ok (suc j) x → ok (suc j) y → ok (suc j) (choose t x y)
        either true p q = p
        either false p q = q

    along-ok : {p : ℕ} → p < X.states → (w j : ℕ) → j ≤ X.steps → ok j (along X (f p) p w j)
    unfolding run
    along-ok {p} h w zero l = start p h
    along-ok {p} h w (suc j) l =
        L.step_ok l (omega (arith, state-below (bit w) (bit-lt w) X.states p j h, bit-lt w j)) (along-ok h w j (omega arith))

    -- BOUND. No walk to a state scores more than the state has, counted on from its start's score.
    pub no-walk-above : {p : ℕ} → p < X.states → (w j : ℕ) → j ≤ X.steps
        → le (along X (f p) p w j) (scores X f j (state X.states p (bit w) j))
    unfolding run scores state
    no-walk-above {p} h w zero l = L.le_refl (start p h)
    no-walk-above {p} h w (suc j) l =
        step-above (record { at = λ s k. scores-ok j (omega arith) k }) l (state-below (bit w) (bit-lt w) X.states p j h) (bit-lt w j)
        (along-ok h w j (omega arith)) (no-walk-above h w j (omega arith))

    -- so none scores more than the end state has
    pub end-greatest : {p : ℕ} → p < X.states → (w : ℕ) → le (along X (f p) p w X.steps) (final X f (end_state X f))
    end-greatest {p} h w =
        L.le_trans (no-walk-above h w X.steps (omega arith))
        (highest-le L (final X f) X.states (record { at = λ s k. scores-ok X.steps (omega arith) k })
        (state-below (bit w) (bit-lt w) X.states p X.steps h))

  -- a walk counted on from a greater score scores no less
  pub along-le : {a b : A} → ok 0 a → ok 0 b → le a b → {p : ℕ} → p < X.states → (w j : ℕ) → j ≤ X.steps → le (along X a p w j) (along X b p w j)
  unfolding run
  along-le oa ob h hp w zero l = h
  along-le {a} {b} oa ob h {p} hp w (suc j) l =
      L.step-le l (omega (arith, state-below (bit w) (bit-lt w) X.states p j hp, bit-lt w j)) (along-ok (λ _. a) (λ s k. oa) hp w j (omega arith))
      (along-ok (λ _. b) (λ s k. ob) hp w j (omega arith)) (along-le oa ob h hp w j (omega arith))
