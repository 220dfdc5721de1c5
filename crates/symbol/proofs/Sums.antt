-- The ten log-sums with one value more, bit by bit: a value goes into one of each bit's two. Assumes nothing.
use Prim.Native.Nat.{ℕ, ◌+◌, ◌*◌, ◌/◌, ◌%◌, ◌≤◌, ◌<◌}
use mathlib.Core.Bool.{Bool, true, false}
use mathlib.Core.List.{List}
use mathlib.Core.Path.{◌≡◌, refl, sym, ap, ap₂, ◌∙◌}
use native.Mathlib.Omega.{arith}
use borrow.Author.Tests.{eq-eqb, ne_eqb, eqb-true, eqb-false, ltb-true, ltb-false}
use lib.Dec.{eqb, ltb}
use lib.Ieee.{Float, nan, binary32, sub}
use lib.ListN.{length, get_or, set, length-set, replicate, length-replicate, get_or-replicate}
use lib.Seq.{get_or-set_same, get_or-set_other}
use Rattle.util.specs.Choose.{choose}
use Rattle.ieee.specs.Within.{clamp}
use Rattle.lse.specs.Lse.{float32, negative, lse_of}
use Rattle.symbol.specs.Symbol.{log_sum, bit_of, soft_bit}
use Rattle.symbol.specs.Sums.{Summed, soft_from}
use Rattle.symbol.proofs.Same.{sum_more}

-- the log-sum at place q
abbrev pub sum_at : Bool → (ℕ → Float) → ℕ → ℕ → Float
sum_at gray x n q = log_sum (bit_of gray (q / 2)) (q % 2) x n

-- value v is in the sums of the first k bits
pub record Between (gray : Bool) (x : ℕ → Float) (v k : ℕ) (l : List Float) : Type 0 where
  pub size : length l ≡ 10
  pub done : (q : ℕ) → q < 2 * k → get_or l q nan ≡ sum_at gray x (v + 1) q
  pub left : (q : ℕ) → q < 10 → 2 * k ≤ q → get_or l q nan ≡ sum_at gray x v q

pub between_none : (gray : Bool) (x : ℕ → Float) (v : ℕ) (l : List Float) → Summed gray x v l → Between gray x v 0 l
between_none gray x v l s = record { size = s.size; done = λ q h. absurd (omega (arith, h)); left = λ q h h'. s.each q h }

pub between-all : (gray : Bool) (x : ℕ → Float) (v k : ℕ) (l : List Float) → 5 ≤ k → Between gray x v k l → Summed gray x (v + 1) l
between-all gray x v k l h s = record { size = s.size; each = λ q p. s.done q (omega (arith, h, p)) }

module _ (gray : Bool) (x : ℕ → Float) (v k : ℕ) (l : List Float) (few : k < 5) (so : Between gray x v k l) (at : ℕ) (is : at ≡ 2 * k + bit_of gray k v) where
  abbrev new : Float
  new = lse_of (get_or l at nan) (x v)

  -- the sum that takes the value
  taken : new ≡ sum_at gray x (v + 1) at
  taken =
      let half : at / 2 ≡ k = omega arith in
      let rest : at % 2 ≡ bit_of gray k v = omega arith in
      ap (λ (s : Float). lse_of s (x v)) (so.left at (omega arith) (omega arith))
      ∙ sym (sum_more (bit_of gray (at / 2)) (at % 2) x v
      ∙ ap (λ (t : Bool). choose t (lse_of (sum_at gray x v at) (x v)) (sum_at gray x v at))
      (eq-eqb _ _ (ap (λ (i : ℕ). bit_of gray i v) half ∙ sym rest)))

  -- the other one of bit k
  other : (q : ℕ) → 2 * k ≤ q → q < 2 * k + 2 → (q ≡ at → ⊥) → sum_at gray x v q ≡ sum_at gray x (v + 1) q
  other q h h' ne =
      let half : q / 2 ≡ k = omega arith in
      sym (sum_more (bit_of gray (q / 2)) (q % 2) x v ∙ ap (λ (t : Bool). choose t (lse_of (sum_at gray x v q) (x v)) (sum_at gray x v q))
      (ne_eqb _ _ (λ e. ne (let e' : bit_of gray k v ≡ q % 2 = sym (ap (λ (i : ℕ). bit_of gray i v) half) ∙ e in omega (arith, e', is, half)))))

  at_place : (q : ℕ) → q < 2 * (k + 1) → get_or (set l at new) q nan ≡ sum_at gray x (v + 1) q
  at_place q h = by (ltb q (2 * k)) refl
    where
      here : (t : Bool) → eqb q at ≡ t → 2 * k ≤ q → get_or (set l at new) q nan ≡ sum_at gray x (v + 1) q
      here true e p = ap (λ (i : ℕ). get_or (set l at new) i nan) (eqb-true q at e)
          ∙ get_or-set_same l at new nan (omega (arith, is, so.size)) ∙ taken ∙ ap (sum_at gray x (v + 1)) (sym (eqb-true q at e))
      here false e p = get_or-set_other l at q new nan (eqb-false q at e) ∙ so.left q (omega (arith, h)) p ∙ other q p (omega (arith, h)) (eqb-false q at e)

      by : (t : Bool) → ltb q (2 * k) ≡ t → get_or (set l at new) q nan ≡ sum_at gray x (v + 1) q
      by true e = let less : q < 2 * k = ltb-true q (2 * k) e in get_or-set_other l at q new nan (λ p. absurd (omega (arith, p, less, is))) ∙ so.done q less
      by false e = here (eqb q at) refl (ltb-false q (2 * k) e)

  pub between_more : Between gray x v (k + 1) (set l at new)
  between_more =
      record {
        size = length-set l at new ∙ so.size;
        done = at_place;
        left = λ q h h'. get_or-set_other l at q new nan (λ e. absurd (omega (arith, e, h', is))) ∙ so.left q h (omega (arith, h'));
      }

pub summed-none : (gray : Bool) (x : ℕ → Float) (none : Float) → none ≡ log_sum (bit_of gray 0) 0 x 0 → Summed gray x 0 (replicate 10 none)
unfolding log_sum
summed-none gray x none e = record { size = length-replicate {A = Float} 10 none; each = λ q h. get_or-replicate 10 q none nan h ∙ e }

pub soft-of : (gray : Bool) (x : ℕ → Float) (l : List Float) (k : ℕ) → k < 5 → Summed gray x 32 l → soft_from l k ≡ soft_bit gray k x
unfolding soft_bit
soft-of gray x l k h s =
    let even : 2 * k / 2 ≡ k = omega arith in
    let none : 2 * k % 2 ≡ 0 = omega arith in
    let odd : (2 * k + 1) / 2 ≡ k = omega arith in
    let one : (2 * k + 1) % 2 ≡ 1 = omega arith in
    ap₂ (λ (a b : Float). clamp (negative 12) (float32 12) (sub binary32 a b))
    (s.each (2 * k) (omega arith) ∙ ap₂ (λ (i b : ℕ). log_sum (bit_of gray i) b x 32) even none)
    (s.each (2 * k + 1) (omega arith) ∙ ap₂ (λ (i b : ℕ). log_sum (bit_of gray i) b x 32) odd one)
