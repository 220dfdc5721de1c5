-- A number in decimal digits, digit by digit: what a digit more makes, and that no digit more makes it less. Assumes nothing.
use Prim.Native.Nat.{ℕ, zero, suc, ◌+◌, ◌*◌, ◌-◌, ◌^◌, ◌≤◌, ◌<◌}
use mathlib.Core.Bool.{Bool, true, false, ◌||◌, or-true}
use mathlib.Core.List.{List}
use mathlib.Core.Logic.{◌⊎◌, inl, inr, ⊎_elim}
use mathlib.Core.Path.{◌≡◌, refl, sym, ap, ◌∙◌}
use native.Mathlib.Nat.{zero-add, le_refl, le_trans, eq-or-lt_of_le}
use native.Mathlib.Omega.{arith}
use borrow.Author.Tests.{le-leb, lt-leb, leb-true, leb-false}
use lib.Dec.{eqb, leb}
use lib.ListN.{length, get_or}
use Rattle.util.specs.Choose.{choose}
use Rattle.util.specs.Some.{some_of}
use Rattle.util.proofs.Some.{neither}
use Rattle.wire.specs.Bytes.{high_first}
use Rattle.wire.proofs.Bytes.{digit-more}
use Rattle.burst_input.specs.Decimal.{no_digit, number_of, decimal_of, with_digit}
use Rattle.std.specs.Prelude.{Option, None, Some, SomeIff}

-- the number with the digit of a byte behind it
abbrev pub behind : ℕ → ℕ → ℕ
behind n byte = 10 * n + (byte - 48)

pub one_more : (word : List ℕ) (i n : ℕ) → n ≡ number_of word i → behind n (get_or word i 0) ≡ number_of word (i + 1)
one_more word i n e =
    digit-more 10 (λ k. get_or word k 0 - 48) 0 i n (get_or word i 0 - 48) e (ap (λ (k : ℕ). get_or word k 0 - 48) (sym (zero-add i)))

grows : (word : List ℕ) (i n : ℕ) → i ≤ n → number_of word i ≤ number_of word n
unfolding high_first
grows word i zero h = let none : i ≡ 0 = omega arith in rw none (le_refl _)
grows word i (suc n) h =
    ⊎_elim
    (λ e. rw e (le_refl _))
    (λ l. let before : number_of word i ≤ number_of word n = grows word i n (omega arith) in omega arith)
    (eq-or-lt_of_le h)

-- ---- a digit

either : (a b : Bool) → (a || b) ≡ true → (a ≡ true) ⊎ (b ≡ true)
either true b e = inl refl
either false b e = inr e

pub is-other : (n byte : ℕ) → with_digit n byte ≡ None → (no_digit byte ≡ true) ⊎ (2 ^ 64 ≤ behind n byte)
unfolding with_digit
is-other n byte e = ⊎_elim inl (λ l. inr (leb-true (2 ^ 64) (behind n byte) l)) (either (no_digit byte) (leb (2 ^ 64) (behind n byte)) (by _ e))
  where
    by : (t : Bool) → choose t None (Some (behind n byte)) ≡ None → t ≡ true
    by true e = refl
    by false e = let z : ◌≡◌ {A = ℕ} 0 1 = cc in absurd (omega arith)

-- ten times n and a digit behind it, summed where they fit
pub summed : (n byte m d : ℕ) (r : Option ℕ) → no_digit byte ≡ false → m ≡ n * 10 → d ≡ byte - 48 → SomeIff r (m + d < 2 ^ 64) (m + d)
    → r ≡ with_digit n byte
unfolding with_digit
summed n byte m d None digit e f large = rw (digit, le-leb (2 ^ 64) (behind n byte) (omega arith)) refl
summed n byte m d (Some x) digit e f fits = rw (digit, lt-leb (2 ^ 64) (behind n byte) (omega arith)) (ap Some (omega arith))

pub too_many : (n byte : ℕ) → no_digit byte ≡ false → (n * 10 < 2 ^ 64 → ⊥) → None ≡ with_digit n byte
unfolding with_digit
too_many n byte digit large = rw (digit, le-leb (2 ^ 64) (behind n byte) (omega arith)) refl

pub no_number : (n byte : ℕ) → no_digit byte ≡ true → None ≡ with_digit n byte
unfolding with_digit
no_number n byte e = rw e refl

-- what a digit more is
pub record Further (n byte m : ℕ) : Type 0 where
  pub digit : no_digit byte ≡ false
  pub small : behind n byte < 2 ^ 64
  pub sum : m ≡ behind n byte

pub is_number : (n byte m : ℕ) → with_digit n byte ≡ Some m → Further n byte m
unfolding with_digit
is_number n byte m e = by (no_digit byte || leb (2 ^ 64) (behind n byte)) refl e
  where
    by : (t : Bool) → (no_digit byte || leb (2 ^ 64) (behind n byte)) ≡ t → choose t None (Some (behind n byte)) ≡ Some m → Further n byte m
    by true p e = let z : ◌≡◌ {A = ℕ} 0 1 = cc in absurd (omega arith)
    by false p e =
        let both = neither (no_digit byte) (leb (2 ^ 64) (behind n byte)) p in
        let same : behind n byte ≡ m = cc in
        record { digit = both.0; small = leb-false (2 ^ 64) (behind n byte) both.1; sum = sym same }

-- ---- a word

module _ (word : List ℕ) where
  pub empty : eqb (length word) 0 ≡ true → None ≡ decimal_of word
  unfolding decimal_of
  empty e = rw e refl

  other : (a b c : Bool) (n : ℕ) → (b || c) ≡ true → None ≡ choose (a || (b || c)) None (Some n)
  other true b c n e = refl
  other false b c n e = rw e refl

  pub other_byte : some_of no_digit word ≡ true → None ≡ decimal_of word
  unfolding decimal_of
  other_byte e =
      other (eqb (length word) 0) (some_of no_digit word) (leb (2 ^ 64) (number_of word (length word))) (number_of word (length word))
      (ap (λ (t : Bool). t || leb (2 ^ 64) (number_of word (length word))) e)

  pub too_large : (i : ℕ) → i ≤ length word → 2 ^ 64 ≤ number_of word i → None ≡ decimal_of word
  unfolding decimal_of
  too_large i h large =
      other (eqb (length word) 0) (some_of no_digit word) (leb (2 ^ 64) (number_of word (length word))) (number_of word (length word))
      (ap (λ (t : Bool). some_of no_digit word || t) (le-leb (2 ^ 64) (number_of word (length word)) (le_trans large (grows word i (length word) h)))
      ∙ or-true (some_of no_digit word))

  pub number : eqb (length word) 0 ≡ false → some_of no_digit word ≡ false → number_of word (length word) < 2 ^ 64
      → Some (number_of word (length word)) ≡ decimal_of word
  unfolding decimal_of
  number some digits small = rw (some, digits, lt-leb (2 ^ 64) (number_of word (length word)) small) refl
