-- The bins that are taken out of a row: exactly the five from two below the strongest tone's place to two above it, so that all but five are left.
-- Assumes nothing.
use Prim.Native.Nat.{ℕ, ◌+◌, ◌-◌, ◌≤◌, ◌<◌}
use mathlib.Core.Bool.{Bool, true, false, ◌&&◌, and-false}
use mathlib.Core.Logic.{◌⊎◌, inl, inr}
use mathlib.Core.Option.{none, some, none-ne-some}
use mathlib.Core.Path.{◌≡◌, refl, sym, ap, ap₂, ◌∙◌}
use native.Mathlib.Omega.{arith}
use lib.Dec.{leb}
use lib.Ieee.{Float}
use borrow.Author.Tests.{le-leb, lt-leb, leb-true, leb-false}
use Rattle.util.proofs.Choose.{chosen, not_chosen}
use Rattle.level.specs.Row.{is_around, held_of}
use Rattle.level.specs.Rank.{passes, count_of, there_of}
use Rattle.level.proofs.Counting.{some_inj, count-all, count_none}

-- ---- which bins are around place e
pub around : (e b : ℕ) → e ≤ b + 2 → b ≤ e + 2 → is_around e b ≡ true
unfolding is_around
around e b h k = ap₂ ◌&&◌ (le-leb e (b + 2) h) (le-leb b (e + 2) k)

pub not-around : (e b : ℕ) → (b + 2 < e) ⊎ (e + 2 < b) → is_around e b ≡ false
unfolding is_around
not-around e b (inl h) = ap (λ (t : Bool). t && leb b (e + 2)) (lt-leb e (b + 2) h)
not-around e b (inr h) = ap (λ (t : Bool). leb e (b + 2) && t) (lt-leb b (e + 2) h) ∙ and-false (leb e (b + 2))

-- a bin is around e or not, which the two tests tell
around-or-not : (e b : ℕ) → ((e ≤ b + 2) × (b ≤ e + 2)) ⊎ ((b + 2 < e) ⊎ (e + 2 < b))
around-or-not e b = by (leb e (b + 2)) (leb b (e + 2)) refl refl
  where
    by : (t u : Bool) → leb e (b + 2) ≡ t → leb b (e + 2) ≡ u → ((e ≤ b + 2) × (b ≤ e + 2)) ⊎ ((b + 2 < e) ⊎ (e + 2 < b))
    by true true p q = inl (leb-true e (b + 2) p, leb-true b (e + 2) q)
    by true false p q = inr (inr (leb-false b (e + 2) q))
    by false u p q = inr (inl (leb-false e (b + 2) p))

module _ (row : ℕ → Float) (e b : ℕ) where
  -- what is missing, and what is there
  pub missing-is : e ≤ b + 2 → b ≤ e + 2 → held_of row e b ≡ none
  unfolding held_of
  missing-is h k = chosen none (some (row b)) (around e b h k)

  pub there-is : (b + 2 < e) ⊎ (e + 2 < b) → held_of row e b ≡ some (row b)
  unfolding held_of
  there-is h = not_chosen none (some (row b)) (not-around e b h)

  -- and nothing else is
  pub missing-only : held_of row e b ≡ none → (e ≤ b + 2) × (b ≤ e + 2)
  missing-only c = elim (around-or-not e b) [
    | inl h ↦ h
    | inr h ↦ absurd (none-ne-some (row b) (sym c ∙ there-is h))
  ]

  pub there-only : (x : Float) → held_of row e b ≡ some x → (x ≡ row b) × ((b + 2 < e) ⊎ (e + 2 < b))
  there-only x c = elim (around-or-not e b) [
    | inl h ↦ absurd (none-ne-some x (sym (missing-is h.0 h.1) ∙ c))
    | inr h ↦ (some_inj (sym c ∙ there-is h), h)
  ]

-- the count of those that are there passes over the missing
counted : (row : ℕ → Float) (e b : ℕ) → (b + 2 < e) ⊎ (e + 2 < b) → passes (λ x. true) (held_of row e b) ≡ true
counted row e b h = ap (passes (λ x. true)) (there-is row e b h)

not-counted : (row : ℕ → Float) (e b : ℕ) → e ≤ b + 2 → b ≤ e + 2 → passes (λ x. true) (held_of row e b) ≡ false
not-counted row e b h k = ap (passes (λ x. true)) (missing-is row e b h k)

-- m bins below the five, and r above them
parts : (row : ℕ → Float) (m r : ℕ) → there_of (held_of row (m + 2)) (0 + m + 5 + r) ≡ m + r
unfolding count_of
parts row m r =
    let e = m + 2 in
    let held = held_of row e in
    let low = count-all (λ x. true) held 0 m (λ b h k. counted row e b (inl (omega arith))) in
    let gap = count_none (λ x. true) held (0 + m) 5 (λ b h k. not-counted row e b (omega arith) (omega arith)) in
    let high = count-all (λ x. true) held (0 + m + 5) r (λ b h k. counted row e b (inr (omega arith))) in
    omega (arith, low, gap, high)

-- all but five are there
pub five : (row : ℕ → Float) (e n : ℕ) → 2 ≤ e → e + 3 ≤ n → there_of (held_of row e) n + 5 ≡ n
five row e n h k =
    let m = e - 2 in
    let r = n - (e + 3) in
    let same-e : m + 2 ≡ e = omega arith in
    let same-n : 0 + m + 5 + r ≡ n = omega arith in
    let same = ap₂ (λ (f q : ℕ). there_of (held_of row f) q) same-e same-n in
    omega (arith, parts row m r, same)
