-- From two starts the same bits never come to the same CRC. A step can be undone: the polynomial is odd and the doubled
-- register even, so the lowest bit tells whether the polynomial was taken, and with it the bit that was shifted out.
-- Assumes nothing.
use Rattle.std.proofs.Common.{◌≡◌, ℕ, zero, suc, ◌+◌, ◌*◌, ◌/◌, ◌%◌, ◌^◌, ◌<◌, ◌≤◌, Bool, true, false, eqb, ltb, List, [], ◌∷◌, sym, refl, ap, ◌∙◌, arith, lit<, ltb-false, eqb-true}
use borrow.Author.Tests.{eqb-false}
use lib.Bits.{bit_xor, differ, xor_step, xor_mod, xor_lt, xor_zero_l}
use Rattle.util.specs.Choose.{choose}
use Rattle.util.specs.Some.{some_of}
use Rattle.util.specs.Crc.{crc_step, crc_of}
use Rattle.util.proofs.Choose.{chosen, not_chosen}
use Rattle.util.proofs.Some.{neither}

-- ---- an exclusive or can be undone

digit-small : (x z : ℕ) → x < 2 → z < 2 → differ x z < 2
digit-small zero z hx hz = hz
digit-small (suc zero) zero hx hz = hx
digit-small (suc zero) (suc z) hx hz = omega arith
digit-small (suc (suc x)) z hx hz = absurd (omega arith)

digit-back : (x y z : ℕ) → x < 2 → y < 2 → z < 2 → differ x z ≡ differ y z → x ≡ y
digit-back zero zero z hx hy hz e = refl
digit-back zero (suc zero) zero hx hy hz e = absurd (omega (arith, e))
digit-back zero (suc zero) (suc z) hx hy hz e = absurd (omega (arith, e))
digit-back (suc zero) zero zero hx hy hz e = absurd (omega (arith, e))
digit-back (suc zero) zero (suc z) hx hy hz e = absurd (omega (arith, e))
digit-back (suc zero) (suc zero) z hx hy hz e = refl
digit-back (suc (suc x)) y z hx hy hz e = absurd (omega arith)
digit-back zero (suc (suc y)) z hx hy hz e = absurd (omega arith)
digit-back (suc zero) (suc (suc y)) z hx hy hz e = absurd (omega arith)

-- f bounds the numbers, which halve with each digit
xor-back : (f a b c : ℕ) → a ≤ f → b ≤ f → bit_xor a c ≡ bit_xor b c → a ≡ b
xor-back zero a b c ha hb e = omega arith
xor-back (suc f) a b c ha hb e =
    let steps : bit_xor (a / 2) (c / 2) * 2 + differ (a % 2) (c % 2) ≡ bit_xor (b / 2) (c / 2) * 2 + differ (b % 2) (c % 2) =
    sym (xor_step a c) ∙ e ∙ xor_step b c in
    let one : differ (a % 2) (c % 2) < 2 = digit-small (a % 2) (c % 2) (omega arith) (omega arith) in
    let other : differ (b % 2) (c % 2) < 2 = digit-small (b % 2) (c % 2) (omega arith) (omega arith) in
    let digits : differ (a % 2) (c % 2) ≡ differ (b % 2) (c % 2) = omega (arith, steps, one, other) in
    let rest : bit_xor (a / 2) (c / 2) ≡ bit_xor (b / 2) (c / 2) = omega (arith, steps, digits) in
    let low : a % 2 ≡ b % 2 = digit-back (a % 2) (b % 2) (c % 2) (omega arith) (omega arith) (omega arith) digits in
    let high : a / 2 ≡ b / 2 = xor-back f (a / 2) (b / 2) (c / 2) (omega arith) (omega arith) rest in
    omega (arith, low, high)

-- ---- a step can be undone

-- the polynomial makes the doubled register odd
odd : (s : ℕ) → bit_xor (s * 2 % 2 ^ 16) 0x1021 % 2 ≡ 1
odd s =
    let even : s * 2 % 2 ^ 16 % 2 ≡ 0 = omega arith in
    xor_mod (s * 2 % 2 ^ 16) 0x1021 1 ∙ ap (λ (x : ℕ). bit_xor x 1) even ∙ xor_zero_l 1

-- what is left of a doubled register
left : (s : ℕ) → s * 2 % 2 ^ 16 ≡ 2 * (s % 2 ^ 15)
left s = omega arith

module _ (s t b : ℕ) (hs : s < 2 ^ 16) (ht : t < 2 ^ 16) (hb : b < 2) where
  -- the registers agree where what was shifted out and what is left do
  whole : bit_xor (s / 2 ^ 15) b ≡ bit_xor (t / 2 ^ 15) b → s * 2 % 2 ^ 16 ≡ t * 2 % 2 ^ 16 → s ≡ t
  whole tops rest =
      let high : s / 2 ^ 15 ≡ t / 2 ^ 15 = xor-back 1 (s / 2 ^ 15) (t / 2 ^ 15) b (omega arith) (omega arith) tops in
      let low : s % 2 ^ 15 ≡ t % 2 ^ 15 = omega (arith, sym (left s) ∙ rest ∙ left t) in
      omega (arith, high, low)

  -- what is not 1 is 0
  none : (r : ℕ) → r < 2 ^ 16 → eqb (bit_xor (r / 2 ^ 15) b) 1 ≡ false → bit_xor (r / 2 ^ 15) b ≡ 0
  none r h p =
      let small : bit_xor (r / 2 ^ 15) b < 2 ^ 1 = xor_lt 1 (r / 2 ^ 15) b (omega arith) (omega arith) in
      let other = eqb-false (bit_xor (r / 2 ^ 15) b) 1 p in
      omega (arith, small, other)

  step_back : crc_step s b ≡ crc_step t b → s ≡ t
  unfolding crc_step
  step_back e = by (eqb (bit_xor (s / 2 ^ 15) b) 1) refl (eqb (bit_xor (t / 2 ^ 15) b) 1) refl
    where
      by : (u : Bool) → eqb (bit_xor (s / 2 ^ 15) b) 1 ≡ u → (v : Bool) → eqb (bit_xor (t / 2 ^ 15) b) 1 ≡ v → s ≡ t
      by true p true q =
          let taken : bit_xor (s * 2 % 2 ^ 16) 0x1021 ≡ bit_xor (t * 2 % 2 ^ 16) 0x1021 = sym (chosen _ _ p) ∙ e ∙ chosen _ _ q in
          whole (eqb-true _ _ p ∙ sym (eqb-true _ _ q))
          (xor-back (2 ^ 16) (s * 2 % 2 ^ 16) (t * 2 % 2 ^ 16) 0x1021 (omega arith) (omega arith) taken)
      by false p false q = whole (none s hs p ∙ sym (none t ht q)) (sym (not_chosen _ _ p) ∙ e ∙ not_chosen _ _ q)
      by true p false q =
          let same : bit_xor (s * 2 % 2 ^ 16) 0x1021 ≡ t * 2 % 2 ^ 16 = sym (chosen _ _ p) ∙ e ∙ not_chosen _ _ q in
          absurd (omega (arith, ap (λ (x : ℕ). x % 2) same, odd s))
      by false p true q =
          let same : s * 2 % 2 ^ 16 ≡ bit_xor (t * 2 % 2 ^ 16) 0x1021 = sym (not_chosen _ _ p) ∙ e ∙ chosen _ _ q in
          absurd (omega (arith, ap (λ (x : ℕ). x % 2) same, odd t))

step_small : (s b : ℕ) → crc_step s b < 2 ^ 16
unfolding crc_step
step_small s b = by (eqb (bit_xor (s / 2 ^ 15) b) 1)
  where
    by : (u : Bool) → choose u (bit_xor (s * 2 % 2 ^ 16) 0x1021) (s * 2 % 2 ^ 16) < 2 ^ 16
    by true = xor_lt 16 (s * 2 % 2 ^ 16) 0x1021 (omega arith) (lit< tt)
    by false = omega arith

-- of bits, the same CRC comes from the same start
pub crc-back : (s t : ℕ) (bits : List ℕ) → s < 2 ^ 16 → t < 2 ^ 16 → some_of (ltb 1) bits ≡ false → crc_of s bits ≡ crc_of t bits → s ≡ t
unfolding crc_of
crc-back s t [] hs ht digits e = e
crc-back s t (b ∷ bs) hs ht digits e =
    let both = neither (ltb 1 b) (some_of (ltb 1) bs) digits in
    step_back s t b hs ht (omega (arith, ltb-false 1 b both.0))
    (crc-back (crc_step s b) (crc_step t b) bs (step_small s b) (step_small t b) both.1 e)
