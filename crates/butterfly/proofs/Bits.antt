-- Decisions in a word, the first in the lowest bit: added two at a time, read bit by bit, and two words as one. Assumes nothing.
use Prim.Native.Nat.{ℕ, zero, suc, ◌+◌, ◌*◌, ◌-◌, ◌/◌, ◌%◌, ◌^◌, ◌≤◌, ◌<◌}
use mathlib.Core.Bool.{Bool, true, false}
use mathlib.Core.Logic.{⊎_elim}
use mathlib.Core.Path.{◌≡◌, refl, sym, ap, subst, ◌∙◌}
use native.Mathlib.Nat.{pow-succ', eq-or-lt_of_le, not-suc-le-zero}
use native.Mathlib.Omega.{arith}
use lib.Dec.{eqb}
use lib.Pow.{field, high, low, mod-mod-pow, shr-shr}
use Rattle.util.specs.Choose.{choose}
use Rattle.util.proofs.Fill.{below_or_not}
use Rattle.pass.specs.Areas.{flag}
use Rattle.butterfly.specs.Blocks.{word}

-- ---- the bits of a number's low and high part

pub flag-low : (p n i : ℕ) → i < n → flag (p % 2 ^ n) i ≡ flag p i
flag-low p n i h =
    let whole : n - i - 1 + 1 + i ≡ n = omega arith in
    let part : p % 2 ^ n / 2 ^ i ≡ p / 2 ^ i % 2 ^ (n - i - 1 + 1) =
    subst (λ (m : ℕ). p % 2 ^ m / 2 ^ i ≡ p / 2 ^ i % 2 ^ (n - i - 1 + 1)) whole (field p (n - i - 1 + 1) i) in
    ap (λ (x : ℕ). eqb x 1) (ap (λ (x : ℕ). x % 2) part ∙ mod-mod-pow (p / 2 ^ i) (n - i - 1) 1)

pub flag-high : (p n i : ℕ) → flag (p / 2 ^ n) i ≡ flag p (n + i)
flag-high p n i = ap (λ (x : ℕ). eqb (x % 2) 1) (shr-shr p n i)

-- two parts, b above the n bits of a
module _ (a b n : ℕ) (h : a < 2 ^ n) where
  pub joined-low : (i : ℕ) → i < n → flag (b * 2 ^ n + a) i ≡ flag a i
  joined-low i l = sym (flag-low (b * 2 ^ n + a) n i l) ∙ ap (λ (x : ℕ). flag x i) (low b n h)

  pub joined-high : (i : ℕ) → flag (b * 2 ^ n + a) (n + i) ≡ flag b i
  joined-high i = sym (flag-high (b * 2 ^ n + a) n i) ∙ ap (λ (x : ℕ). flag x i) (high b n h)

-- ---- a word of decisions

as-product : (t : Bool) (p : ℕ) → choose {A = ℕ} t p 0 ≡ choose {A = ℕ} t 1 0 * p
as-product true p = omega arith
as-product false p = omega arith

at_most : (t : Bool) (p : ℕ) → choose {A = ℕ} t p 0 ≤ p
at_most true p = omega arith
at_most false p = omega arith

double : (t : Bool) (p q : ℕ) → q ≡ 2 * p → choose {A = ℕ} t q 0 ≡ 2 * choose {A = ℕ} t p 0
double true p q e = e
double false p q e = omega arith

flag_one : (t : Bool) → flag (choose {A = ℕ} t 1 0) 0 ≡ t
flag_one true = refl
flag_one false = refl

module _ (d : ℕ → Bool) (s : ℕ) where
  pub word_lt : (n : ℕ) → word d s n < 2 ^ n
  unfolding word
  word_lt zero = omega arith
  word_lt (suc n) = omega (arith, word_lt n, at_most (d (s + n)) (2 ^ n), pow-succ' 2 n)

  -- one decision more, above the n before
  more : (n : ℕ) → word d s (suc n) ≡ choose {A = ℕ} (d (s + n)) 1 0 * 2 ^ n + word d s n
  unfolding word
  more n = omega (arith, as-product (d (s + n)) (2 ^ n))

  -- each is read where it stands
  pub word-flag : (n i : ℕ) → i < n → flag (word d s n) i ≡ d (s + i)
  word-flag zero i h = absurd (not-suc-le-zero h)
  word-flag (suc n) i h =
      let bit = choose {A = ℕ} (d (s + n)) 1 0 in
      ap (λ (x : ℕ). flag x i) (more n)
      ∙ ⊎_elim
      (λ (e : i ≡ n).
      let top : n + 0 ≡ i = omega (arith, e) in
      ap (flag (bit * 2 ^ n + word d s n)) (sym top) ∙ joined-high (word d s n) bit n (word_lt n) 0 ∙ flag_one (d (s + n))
      ∙ ap (λ (k : ℕ). d (s + k)) (sym e))
      (λ (l : i < n). joined-low (word d s n) bit n (word_lt n) i l ∙ word-flag n i l)
      (eq-or-lt_of_le (omega arith))

  -- a butterfly's two decisions are added
  pub word_two : (k so : ℕ) → so ≡ word d s (2 * k) → {a b : ℕ} → a ≡ choose (d (s + 2 * k)) (2 ^ (2 * k)) 0 → b ≡ choose (d (s + 2 * k + 1)) (2 ^ (2 * k)) 0
      → so + a + 2 * b ≡ word d s (2 * (k + 1))
  unfolding word
  word_two k so e ea eb =
      let two : 2 * (k + 1) ≡ suc (suc (2 * k)) = omega arith in
      let odd : s + suc (2 * k) ≡ s + 2 * k + 1 = omega arith in
      rw (two, odd) (omega (arith, e, ea, eb, double (d (s + 2 * k + 1)) (2 ^ (2 * k)) (2 ^ suc (2 * k)) (pow-succ' 2 (2 * k))))

-- two words of 32 as one of 64
pub halves : (d : ℕ → Bool) (s a b : ℕ) → a ≡ word d s 32 → b ≡ word d (s + 32) 32 → (i : ℕ) → i < 64 → flag (a + b * 4294967296) i ≡ d (s + i)
halves d s a b ea eb i h =
    let turned : a + b * 4294967296 ≡ b * 2 ^ 32 + a = omega arith in
    let small : a < 2 ^ 32 = omega (arith, ea, word_lt d s 32) in
    ap (λ (x : ℕ). flag x i) turned
    ∙ ⊎_elim
    (λ (l : i < 32). joined-low a b 32 small i l ∙ ap (λ (x : ℕ). flag x i) ea ∙ word-flag d s 32 i l)
    (λ (l : 32 ≤ i).
    let place : 32 + (i - 32) ≡ i = omega arith in
    let state : s + 32 + (i - 32) ≡ s + i = omega arith in
    ap (flag (b * 2 ^ 32 + a)) (sym place) ∙ joined-high a b 32 small (i - 32) ∙ ap (λ (x : ℕ). flag x (i - 32)) eb
    ∙ word-flag d (s + 32) 32 (i - 32) (omega arith) ∙ ap d state)
    (below_or_not i 32)
