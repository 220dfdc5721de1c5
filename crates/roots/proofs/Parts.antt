-- A line's parts one behind another, and how many digits its two numbers have. Assumes nothing.
use Prim.Native.Nat.{ℕ, zero, suc, ◌-◌, ◌^◌, ◌≤◌, ◌<◌}
use mathlib.Core.List.{List, [], ◌∷◌, ◌++◌, append_assoc}
use mathlib.Core.Logic.{⊎_elim}
use mathlib.Core.Path.{◌≡◌, sym, ap, ◌∙◌}
use borrow.Author.Tests.{lt-ltb, le-ltb}
use native.Mathlib.Nat.{le_antisymm, le_trans, lt_of_lt_of_le, lt_irrefl, pow-le-pow_right}
use native.Mathlib.Numerals.{sub-one}
use native.Mathlib.Omega.{arith}
use lib.Ieee.{Float, binary32, to_bits}
use Rattle.io.specs.Digits.{last_digits, IsDigitCount}
use Rattle.util.proofs.Choose.{chosen, not_chosen}
use Rattle.util.proofs.Fill.{below_or_not}
use Rattle.root.specs.Root.{root_of}
use Rattle.roots.specs.Printed.{decimal_of, bits_of, line_of, lines_to}

-- ---- a text behind what was there
further : (was one two a b : List ℕ) → one ≡ was ++ a → two ≡ one ++ b → two ≡ was ++ (a ++ b)
further was one two a b e f = f ∙ ap (λ (l : List ℕ). l ++ b) e ∙ append_assoc was a b

-- the four parts of a line
pub line-is : (n : ℕ) (was one two three four : List ℕ) → one ≡ was ++ decimal_of n → two ≡ one ++ (32 ∷ []) → three ≡ two ++ bits_of (root_of n)
    → four ≡ three ++ (10 ∷ []) → four ≡ was ++ line_of n
unfolding line_of
line-is n was one two three four e f g h =
    let count = decimal_of n in
    let blank : List ℕ = 32 ∷ [] in
    let bits = bits_of (root_of n) in
    further was three four (count ++ blank ++ bits) (10 ∷ []) (further was two three (count ++ blank) bits (further was one two count blank e f) g) h

-- ---- the fewest digits that hold a number are so many and no more
no_more : (b least n k j : ℕ) → 0 < b → IsDigitCount b least n k → IsDigitCount b least n j → j ≤ k
no_more b least n k j p f g =
    ⊎_elim (λ l. absurd (lt_irrefl n (lt_of_lt_of_le f.1 (le_trans (pow-le-pow_right p (below k j l)) (g.2 (reach least k j f.0 l))))))
    (λ l. l) (below_or_not k j)
  where
    below : (k j : ℕ) → k < j → k ≤ j - 1
    below k j l = omega arith

    reach : (least k j : ℕ) → least ≤ k → k < j → least < j
    reach least k j h l = omega arith

one-count : (b least n k j : ℕ) → 0 < b → IsDigitCount b least n k → IsDigitCount b least n j → k ≡ j
one-count b least n k j p f g = le_antisymm (no_more b least n j k p g f) (no_more b least n k j p f g)

pub decimal-is : (n k : ℕ) (text : List ℕ) → n < 100 → IsDigitCount 10 1 n k → text ≡ last_digits 10 k n → (k ≤ 2) × (text ≡ decimal_of n)
unfolding decimal_of
decimal-is n k text h f e =
    let two-hold : n < 10 ^ 2 = omega arith in
    ⊎_elim
    (λ l.
    let one = one-count 10 1 n k 1 (omega arith) f (omega arith, omega arith, (λ b. absurd (omega arith))) in (
      omega arith,
      e ∙ ap (λ (i : ℕ). last_digits 10 i n) (one ∙ sym (chosen 1 2 (lt-ltb n 10 l))),
    ))
    (λ l.
    let two = one-count 10 1 n k 2 (omega arith) f (omega arith, two-hold, (λ b. l)) in (
      omega arith,
      e ∙ ap (λ (i : ℕ). last_digits 10 i n) (two ∙ sym (not_chosen 1 2 (le-ltb n 10 l))),
    ))
    (below_or_not n 10)

pub bits_are : (x : Float) (k : ℕ) (text : List ℕ) → to_bits binary32 x < 16 ^ 8 → IsDigitCount 16 8 (to_bits binary32 x) k → text ≡ last_digits 16 k (to_bits binary32 x)
    → (k ≡ 8) × (text ≡ bits_of x)
unfolding bits_of
bits_are x k text h f e =
    let n = to_bits binary32 x in
    let eight = one-count 16 8 n k 8 (omega arith) f (omega arith, h, (λ b. absurd (omega arith))) in
    (eight, e ∙ ap (λ (i : ℕ). last_digits 16 i n) eight)

-- ---- one line more
pub lines_more : (n : ℕ) → 0 < n → lines_to (n - 1) ++ line_of n ≡ lines_to n
unfolding lines_to
lines_more zero l = absurd (omega arith)
lines_more (suc n) l = ap (λ (k : ℕ). lines_to k ++ line_of (suc n)) (sub-one (suc n))
