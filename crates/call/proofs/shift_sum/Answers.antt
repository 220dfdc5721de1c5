-- Each turn sums one shift more, which is small, so that the sum fits. Assumes nothing.
use Prim.Native.Nat.{ℕ, ◌+◌, ◌-◌, ◌*◌, ◌≤◌, ◌<◌}
use mathlib.Core.List.{List}
use mathlib.Core.Path.{◌≡◌, refl, ap, ◌∙◌, subst, subst⁻¹}
use native.Mathlib.Omega.{arith}
use lib.IntN.{ℤ, pos, nat_abs, ◌+ℤ◌}
use lib.ListN.{length, get_or, take, drop, length-drop}
use lib.Seq.{length-take-le, get_or-take, get_or-drop}
use Rattle.ieee.proofs.Folds.{run-further}
use Rattle.call.proofs.Words.{back, small-fits}
use Rattle.ieee.proofs.Integers.{abs-add}
use Rattle.ieee.specs.Whole.{run}
use mir.Syntax.{w32}
use mir.Val.{SFits, to_z, of_z}
use Rattle.call.proofs.shift_sum.Goals as goal

-- the shifts of a block: how many, and each by its place
module _ (l : List ℤ) (f n : ℕ) (h : f + n ≤ length l) where
  abbrev part : List ℤ
  part = take (f + n - f) (drop f l)

  all : f + n - f ≡ n
  all = omega arith

  long : length part ≡ n
  long =
      ap (λ (m : ℕ). length (take m (drop f l))) all
      ∙ length-take-le n (drop f l) (omega (arith, length-drop f l))

  at : (i : ℕ) → i < n → get_or part i (pos 0) ≡ get_or l (f + i) (pos 0)
  at i less = get_or-take (f + n - f) (drop f l) i (pos 0) (omega (arith, less)) ∙ get_or-drop f l i (pos 0)

-- one shift more
module _ (l : List ℤ) (f n : ℕ) (h : f + n ≤ length l) (few : n ≤ 64) (small : (j : ℕ) → j < f + n → nat_abs (get_or l j (pos 0)) ≤ 2048)
    (i : ℕ) (less : i < n) (acc : ℤ) (size : nat_abs acc ≤ 2048 * i) where
  abbrev z : ℤ
  z = get_or l (f + i) (pos 0)

  z-small : nat_abs z ≤ 2048
  z-small = small (f + i) (omega (arith, less))

  more : nat_abs (acc +ℤ z) ≤ 2048 * (i + 1)
  more = omega (arith, size, z-small, abs-add acc z)

  item : to_z w32 (of_z w32 (get_or (part l f n h) i (pos 0))) ≡ z
  item = ap (λ (y : ℤ). to_z w32 (of_z w32 y)) (at l f n h i less) ∙ back z (omega (arith, z-small))

  holds : SFits w32 (acc +ℤ to_z w32 (of_z w32 (get_or (part l f n h) i (pos 0))))
  holds = subst⁻¹ (λ (y : ℤ). SFits w32 (acc +ℤ y)) item (small-fits (acc +ℤ z) (omega (arith, more, less, few)))

  summed : to_z w32 (of_z w32 (acc +ℤ to_z w32 (of_z w32 (get_or (part l f n h) i (pos 0))))) ≡ acc +ℤ z
  summed = ap (λ (y : ℤ). to_z w32 (of_z w32 (acc +ℤ y))) item ∙ back (acc +ℤ z) (omega (arith, more, less, few))

  turn : acc ≡ run ◌+ℤ◌ (pos 0) (λ k. get_or l (f + k) (pos 0)) i
      → (to_z w32 (of_z w32 (acc +ℤ to_z w32 (of_z w32 (get_or (part l f n h) i (pos 0))))) ≡ run ◌+ℤ◌ (pos 0) (λ k. get_or l (f + k) (pos 0)) (i + 1))
      × (nat_abs (to_z w32 (of_z w32 (acc +ℤ to_z w32 (of_z w32 (get_or (part l f n h) i (pos 0)))))) ≤ 2048 * (i + 1))
  turn e = (summed ∙ run-further ◌+ℤ◌ (pos 0) _ i e, subst⁻¹ (λ (y : ℤ). nat_abs y ≤ 2048 * (i + 1)) summed more)

pub loop-z-init : goal.loop-z-init
unfolding run
loop-z-init c = (refl, omega arith)

pub loop-z-preserved : goal.loop-z-preserved
loop-z-preserved c =
    let a = c.args in
    let few = long a.stored.now a.first a.n c.requires.0 in
    turn a.stored.now a.first a.n c.requires.0 c.requires.1 c.requires.2 c.loop-z.z-index
    (subst (λ (n : ℕ). c.loop-z.z-index < n) few c.loop-z-test.true) (to_z w32 c.loop-z.acc-bits) c.loop-z.invariant.1 c.loop-z.invariant.0

pub overflow_add-acc : goal.overflow_add-acc
overflow_add-acc c =
    let a = c.args in
    let few = long a.stored.now a.first a.n c.requires.0 in
    holds a.stored.now a.first a.n c.requires.0 c.requires.1 c.requires.2 c.loop-z.z-index
    (subst (λ (n : ℕ). c.loop-z.z-index < n) few c.loop-z-test.true) (to_z w32 c.loop-z.acc-bits) c.loop-z.invariant.1

pub returns : goal.returns
returns c =
    let a = c.args in
    let all : c.loop-z.z-index ≡ a.n =
    omega (arith, long a.stored.now a.first a.n c.requires.0, c.loop-z-test.false, c.loop-z.auto.z-index-end) in
    c.loop-z.invariant.0 ∙ ap (run ◌+ℤ◌ (pos 0) (λ j. get_or a.stored.now (a.first + j) (pos 0))) all
