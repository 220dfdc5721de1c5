-- With 2^K states, a walk of K bits or more ends in the state made of its last K bits, wherever it started; so the encoder, which starts
-- there, is closed. By the last k bits of a walk's state, for each k to K.
-- Assumes nothing.
use Prim.Native.Nat.{ℕ, zero, suc, ◌+◌, ◌*◌, ◌-◌, ◌/◌, ◌%◌, ◌^◌, ◌≤◌, ◌<◌}
use mathlib.Core.Bool.{false}
use mathlib.Core.List.{List, [], ◌∷◌}
use mathlib.Core.Path.{◌≡◌, sym, ap, ap₂, ◌∙◌}
use native.Mathlib.Nat.{mod-lt, mod-eq_of_lt, mod-one}
use native.Mathlib.Numerals.{add-one}
use native.Mathlib.Omega.{arith}
use borrow.Author.Tests.{ltb-false}
use lib.Dec.{ltb}
use lib.Pow.{mod-mod-pow, mod-pow-add}
use Rattle.util.proofs.Some.{neither}
use Rattle.frame.specs.Crc.{some_above_one}
use Rattle.conv.specs.Encoder.{register, state, walk_register, made}
use Rattle.conv.specs.Sent.{bits_of}

-- the last k + 1 bits of a register: the last k of its state, and its own bit
register-mod : (x b k : ℕ) → b < 2 → register x b % 2 ^ suc k ≡ register (x % 2 ^ k) b
register-mod x b k h =
    let high : register x b / 2 ≡ x = omega arith in
    let low : register x b % 2 ≡ b = omega arith in
    ap (λ (i : ℕ). register x b % 2 ^ i) (sym (add-one k)) ∙ mod-pow-add (register x b) k 1
    ∙ ap₂ (λ (q r : ℕ). q % 2 ^ k * 2 + r) high low ∙ omega arith

module _ (bits : ℕ → ℕ) (digits : (j : ℕ) → bits j < 2) where
  pub state-below : (N p j : ℕ) → p < N → state N p bits j < N
  unfolding state
  state-below N p zero h = h
  state-below N p (suc j) h = mod-lt (walk_register N p bits j) (omega arith)

  pub made-below : (n k : ℕ) → made bits n k < 2 ^ k
  unfolding made
  made-below n zero = omega arith
  made-below zero (suc k) = omega (arith, made-below zero k)
  made-below (suc n) (suc k) = omega (arith, made-below n k, digits n)

  -- the last k bits of a walk's state are the last k that it took
  state-mod : (K p k n : ℕ) → k ≤ K → k ≤ n → state (2 ^ K) p bits n % 2 ^ k ≡ made bits n k
  unfolding state made
  state-mod K p zero n h l = mod-one _
  state-mod K p (suc k) zero h l = absurd (omega arith)
  state-mod K p (suc k) (suc n) h l =
      cut ∙ register-mod (state (2 ^ K) p bits n) (bits n) k (digits n)
      ∙ ap (λ (x : ℕ). register x (bits n)) (state-mod K p k n (omega arith) (omega arith))
    where
      cut : walk_register (2 ^ K) p bits n % 2 ^ K % 2 ^ suc k ≡ walk_register (2 ^ K) p bits n % 2 ^ suc k
      cut =
          ap (λ (i : ℕ). walk_register (2 ^ K) p bits n % 2 ^ i % 2 ^ suc k) (omega arith)
          ∙ mod-mod-pow (walk_register (2 ^ K) p bits n) (K - suc k) (suc k)

  pub ends-made : (K p n : ℕ) → p < 2 ^ K → K ≤ n → state (2 ^ K) p bits n ≡ made bits n K
  ends-made K p n h l = sym (mod-eq_of_lt (state-below (2 ^ K) p n h)) ∙ state-mod K p K n (omega arith) l

  -- document 01: start and end state agree
  pub closed : (K n : ℕ) → K ≤ n → state (2 ^ K) (made bits n K) bits n ≡ made bits n K
  closed K n l = ends-made K (made bits n K) n (made-below n K) l

-- what the refusals leave: every byte is a bit, and so is what is read past the end
pub bits_below : (bytes : List ℕ) → some_above_one bytes ≡ false → (j : ℕ) → bits_of bytes j < 2
bits_below [] e j = omega arith
bits_below (b ∷ bs) e zero = omega (arith, ltb-false 1 b (neither (ltb 1 b) (some_above_one bs) e).0)
bits_below (b ∷ bs) e (suc j) = bits_below bs (neither (ltb 1 b) (some_above_one bs) e).1 j
