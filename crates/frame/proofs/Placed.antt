-- Step by step the values fill the slots: a step's slot keeps its value, since no later step has it; a slot of none of
-- the steps keeps what it held; and every slot is some step's. Assumes nothing.
use Prim.Native.Nat.{ℕ, zero, suc, ◌+◌, ◌≤◌, ◌<◌}
use mathlib.Core.Bool.{Bool, true, false}
use mathlib.Core.List.{List}
use mathlib.Core.Path.{◌≡◌, refl, sym, ap, ◌∙◌}
use native.Mathlib.Numerals.{add-one}
use native.Mathlib.Omega.{arith}
use borrow.Author.Tests.{eqb-true, eqb-false}
use lib.Dec.{eqb}
use lib.ListN.{length, get_or, set, length-set}
use lib.Seq.{get_or-set_same, get_or-set_other, ext_get_or}
use Rattle.frame.specs.Air.{slot_of, placed}
use Rattle.frame.proofs.Air.{slot-within, slots-differ}
use Rattle.frame.proofs.Onto.{every-slot}

module _ (n : ℕ) (value : ℕ → ℕ) (was : List ℕ) where
  pub placed-length : (m : ℕ) → length (placed n value m was) ≡ length was
  unfolding placed
  placed-length zero = refl
  placed-length (suc m) = simp length-set (placed-length m)

  -- one step more, as a loop counts
  placed-next : (m : ℕ) → placed n value (m + 1) was ≡ set (placed n value m was) (slot_of n m) (value m)
  unfolding placed
  placed-next m = ap (λ (k : ℕ). placed n value k was) (add-one m)

  -- a step's slot holds its value from that step on
  pub placed_at : (m j : ℕ) → length was ≡ n → m ≤ n → j < m → get_or (placed n value m was) (slot_of n j) 0 ≡ value j
  unfolding placed
  placed_at zero j e h l = absurd (omega arith)
  placed_at (suc m) j e h l = by (eqb j m) refl (placed_at m j e (omega arith))
    where
      by : (t : Bool) → eqb j m ≡ t → (j < m → get_or (placed n value m was) (slot_of n j) 0 ≡ value j)
          → get_or (set (placed n value m was) (slot_of n m) (value m)) (slot_of n j) 0 ≡ value j
      by true p before =
          let last : j ≡ m = eqb-true j m p in
          ap (λ (i : ℕ). get_or (set (placed n value m was) (slot_of n m) (value m)) (slot_of n i) 0) last
          ∙ get_or-set_same (placed n value m was) (slot_of n m) (value m) 0 (omega (arith, placed-length m, slot-within n m (omega arith)))
          ∙ ap value (sym last)
      by false p before =
          get_or-set_other (placed n value m was) (slot_of n m) (slot_of n j) (value m) 0
          (λ s. eqb-false j m p (slots-differ n j m (omega arith) (omega arith) s))
          ∙ before (omega (arith, eqb-false j m p))

  -- a slot that is none of the steps' holds what it held
  pub placed-else : (m s : ℕ) → ((j : ℕ) → j < m → slot_of n j ≡ s → ⊥) → get_or (placed n value m was) s 0 ≡ get_or was s 0
  unfolding placed
  placed-else zero s none = refl
  placed-else (suc m) s none =
      get_or-set_other (placed n value m was) (slot_of n m) s (value m) 0 (λ e. none m (omega arith) (sym e))
      ∙ placed-else m s (λ j h. none j (omega arith))

  -- so the values of all n steps are the whole list: nothing is left of what was there
  pub placed-only : (l : List ℕ) → length was ≡ n → length l ≡ n → ((j : ℕ) → j < n → get_or l (slot_of n j) 0 ≡ value j) → l ≡ placed n value n was
  placed-only l e len at = ext_get_or 0 l (placed n value n was) (len ∙ sym (placed-length n ∙ e)) slot
    where
      slot : (s : ℕ) → s < length l → get_or l s 0 ≡ get_or (placed n value n was) s 0
      slot s h =
          let step : (j : ℕ) × (j < n) × (slot_of n j ≡ s) = every-slot n s (omega arith) in
          ap (λ (x : ℕ). get_or l x 0) (sym step.2) ∙ at step.0 step.1
          ∙ sym (placed_at n step.0 e (omega arith) step.1) ∙ ap (λ (x : ℕ). get_or (placed n value n was) x 0) step.2

-- over any two lists of n slots
pub placed-over : (n : ℕ) (value : ℕ → ℕ) (was other : List ℕ) → length was ≡ n → length other ≡ n → placed n value n other ≡ placed n value n was
placed-over n value was other e f =
    placed-only n value was (placed n value n other) e (placed-length n value other n ∙ f) (λ j h. placed_at n value other n j f (omega arith) h)

-- what a loop stores
pub placed-step : (n : ℕ) (value : ℕ → ℕ) (was l : List ℕ) (m s v : ℕ) → l ≡ placed n value m was → s ≡ slot_of n m → v ≡ value m
    → set l s v ≡ placed n value (m + 1) was
placed-step n value was l m s v e at same = stored _ _ _ _ _ _ e at same ∙ sym (placed-next n value was m)
  where
    stored : (l l' : List ℕ) (s s' v v' : ℕ) → l ≡ l' → s ≡ s' → v ≡ v' → set l s v ≡ set l' s' v'
    stored l l' s s' v v' p q r = cc

pub placed-long : (n : ℕ) (value : ℕ → ℕ) (was l : List ℕ) (m : ℕ) → l ≡ placed n value m was → length l ≡ length was
placed-long n value was l m e = ap length e ∙ placed-length n value was m
