-- WHAT AN OUTCOME SAYS, over any kind of score: how its word came, its score, and on which side of the ceiling this lies (document 02, #107); and
-- back. Assumes nothing.
use Prim.Native.Nat.{ℕ}
use mathlib.Core.Path.{◌≡◌, refl, sym, ap, ◌∙◌}
use mathlib.Core.Bool.{Bool, true, false}
use native.Mathlib.Omega.{arith}
use Rattle.util.specs.Choose.{choose}
use Rattle.util.proofs.Choose.{chosen, not_chosen, by-case}
use Rattle.trellis.specs.Scale.{Scale}
use Rattle.trellis.specs.Search.{How, closing, candidate, unclosed}
use Rattle.trellis.specs.Answer.{Sure, Likely, Kept, Open, outcome_of, score_in, HandedOutAsClosed, OutInFirstPass, IsSure}
use Rattle.trellis.proofs.Handed.{Ended, by-closing, by-candidate, by-neither}

-- the score x and the ceiling c
module _ {A : Type 0} (S : Scale A) (x c : A) where
  pub score-is : (h : How) → score_in (outcome_of S h x c) ≡ x
  score-is (closing k) = by-case (λ o. score_in o ≡ x) (S.gt c x) (Likely x k) (Sure x k) (λ e. refl) (λ e. refl)
  score-is candidate = by-case (λ o. score_in o ≡ x) (S.gt c x) (Kept x) (Sure x 3) (λ e. refl) (λ e. refl)
  score-is unclosed = refl

  pub not-open : (h : How) → HandedOutAsClosed (outcome_of S h x c) → h ≡ unclosed → ⊥
  not-open h o e = o x (ap (λ (i : How). outcome_of S i x c) e)

  pub sure-closed : (h : How) → IsSure (outcome_of S h x c) → HandedOutAsClosed (outcome_of S h x c)
  sure-closed h (y, q, e) z f = let never : ◌≡◌ {A = ℕ} 0 1 = cc in omega arith

  -- ---- Sure

  -- its way, the side of the ceiling, its pass where n were run, and its score
  pub sure-says : {n : ℕ} {h : How} → Ended n h → (y : A) (q : ℕ) → outcome_of S h x c ≡ Sure y q
      → (h ≡ unclosed → ⊥) × (S.gt c x ≡ false) × (q ≡ n) × (y ≡ x)
  sure-says {n} by-closing y q e = go (S.gt c x) refl e
    where
      closed : closing n ≡ unclosed → ⊥
      closed p = let never : ◌≡◌ {A = ℕ} 0 1 = cc in omega arith

      go : (t : Bool) → S.gt c x ≡ t → choose t (Likely x n) (Sure x n) ≡ Sure y q → (closing n ≡ unclosed → ⊥) × (S.gt c x ≡ false) × (q ≡ n) × (y ≡ x)
      go true f e = let never : ◌≡◌ {A = ℕ} 0 1 = cc in absurd (omega arith)
      go false f e = (closed, f, cc, cc)
  sure-says {n} (by-candidate third) y q e = go (S.gt c x) refl e
    where
      closed : candidate ≡ unclosed → ⊥
      closed p = let never : ◌≡◌ {A = ℕ} 0 1 = cc in omega arith

      go : (t : Bool) → S.gt c x ≡ t → choose t (Kept x) (Sure x 3) ≡ Sure y q → (candidate ≡ unclosed → ⊥) × (S.gt c x ≡ false) × (q ≡ n) × (y ≡ x)
      go true f e = let never : ◌≡◌ {A = ℕ} 0 1 = cc in absurd (omega arith)
      go false f e = let pass : 3 ≡ q = cc in (closed, f, sym pass ∙ sym third, cc)
  sure-says (by-neither third) y q e = let never : ◌≡◌ {A = ℕ} 0 1 = cc in absurd (omega arith)

  pub sure-so : {n : ℕ} {h : How} → Ended n h → (h ≡ unclosed → ⊥) → S.gt c x ≡ false → outcome_of S h x c ≡ Sure x n
  sure-so {n} by-closing out f = not_chosen (Likely x n) (Sure x n) f
  sure-so {n} (by-candidate third) out f = not_chosen (Kept x) (Sure x 3) f ∙ ap (Sure x) (sym third)
  sure-so (by-neither third) out f = absurd (out refl)

  -- pass 1 is said of a word that is out by closing there alone,
  pub first-is : (h : How) → OutInFirstPass (outcome_of S h x c) → h ≡ closing 1
  first-is (closing k) (y, e) = ap closing (go (S.gt c x) e)
    where
      go : (t : Bool) → choose t (Likely x k) (Sure x k) ≡ Sure y 1 → k ≡ 1
      go true e = let never : ◌≡◌ {A = ℕ} 0 1 = cc in absurd (omega arith)
      go false e = cc
  first-is candidate (y, e) = absurd (go (S.gt c x) e)
    where
      go : (t : Bool) → choose t (Kept x) (Sure x 3) ≡ Sure y 1 → ⊥
      go true e = let never : ◌≡◌ {A = ℕ} 0 1 = cc in omega arith
      go false e = let never : ◌≡◌ {A = ℕ} 3 1 = cc in omega arith
  first-is unclosed (y, e) = let never : ◌≡◌ {A = ℕ} 0 1 = cc in absurd (omega arith)

  -- and always where it is not below the ceiling
  pub first-sure : {h : How} → h ≡ closing 1 → S.gt c x ≡ false → outcome_of S h x c ≡ Sure x 1
  first-sure e f = ap (λ (i : How). outcome_of S i x c) e ∙ not_chosen (Likely x 1) (Sure x 1) f

  -- ---- Likely, Kept, Open

  pub likely-says : (h : How) (y : A) (q : ℕ) → outcome_of S h x c ≡ Likely y q → (h ≡ closing q) × (S.gt c x ≡ true) × (y ≡ x)
  likely-says (closing k) y q e = go (S.gt c x) refl e
    where
      go : (t : Bool) → S.gt c x ≡ t → choose t (Likely x k) (Sure x k) ≡ Likely y q → (closing k ≡ closing q) × (S.gt c x ≡ true) × (y ≡ x)
      go true f e = let pass : k ≡ q = cc in (ap closing pass, f, cc)
      go false f e = let never : ◌≡◌ {A = ℕ} 0 1 = cc in absurd (omega arith)
  likely-says candidate y q e = absurd (go (S.gt c x) e)
    where
      go : (t : Bool) → choose t (Kept x) (Sure x 3) ≡ Likely y q → ⊥
      go true e = let never : ◌≡◌ {A = ℕ} 0 1 = cc in omega arith
      go false e = let never : ◌≡◌ {A = ℕ} 0 1 = cc in omega arith
  likely-says unclosed y q e = let never : ◌≡◌ {A = ℕ} 0 1 = cc in absurd (omega arith)

  pub likely-so : {h : How} (q : ℕ) → h ≡ closing q → S.gt c x ≡ true → outcome_of S h x c ≡ Likely x q
  likely-so q e f = ap (λ (i : How). outcome_of S i x c) e ∙ chosen (Likely x q) (Sure x q) f

  pub kept-says : (h : How) (y : A) → outcome_of S h x c ≡ Kept y → (h ≡ candidate) × (S.gt c x ≡ true) × (y ≡ x)
  kept-says (closing k) y e = absurd (go (S.gt c x) e)
    where
      go : (t : Bool) → choose t (Likely x k) (Sure x k) ≡ Kept y → ⊥
      go true e = let never : ◌≡◌ {A = ℕ} 0 1 = cc in omega arith
      go false e = let never : ◌≡◌ {A = ℕ} 0 1 = cc in omega arith
  kept-says candidate y e = go (S.gt c x) refl e
    where
      go : (t : Bool) → S.gt c x ≡ t → choose t (Kept x) (Sure x 3) ≡ Kept y → (candidate ≡ candidate) × (S.gt c x ≡ true) × (y ≡ x)
      go true f e = (refl, f, cc)
      go false f e = let never : ◌≡◌ {A = ℕ} 0 1 = cc in absurd (omega arith)
  kept-says unclosed y e = let never : ◌≡◌ {A = ℕ} 0 1 = cc in absurd (omega arith)

  pub kept-so : {h : How} → h ≡ candidate → S.gt c x ≡ true → outcome_of S h x c ≡ Kept x
  kept-so e f = ap (λ (i : How). outcome_of S i x c) e ∙ chosen (Kept x) (Sure x 3) f

  pub open-says : (h : How) (y : A) → outcome_of S h x c ≡ Open y → (h ≡ unclosed) × (y ≡ x)
  open-says (closing k) y e = absurd (go (S.gt c x) e)
    where
      go : (t : Bool) → choose t (Likely x k) (Sure x k) ≡ Open y → ⊥
      go true e = let never : ◌≡◌ {A = ℕ} 0 1 = cc in omega arith
      go false e = let never : ◌≡◌ {A = ℕ} 0 1 = cc in omega arith
  open-says candidate y e = absurd (go (S.gt c x) e)
    where
      go : (t : Bool) → choose t (Kept x) (Sure x 3) ≡ Open y → ⊥
      go true e = let never : ◌≡◌ {A = ℕ} 0 1 = cc in omega arith
      go false e = let never : ◌≡◌ {A = ℕ} 0 1 = cc in omega arith
  open-says unclosed y e = (refl, cc)

  pub open-so : {h : How} → h ≡ unclosed → outcome_of S h x c ≡ Open x
  open-so e = ap (λ (i : How). outcome_of S i x c) e
