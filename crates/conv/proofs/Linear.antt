-- Labels are linear: the label of an exclusive or is the exclusive or of the labels, since a parity is, digit by digit of the register.
-- Assumes nothing.
use Prim.Native.Nat.{ℕ, zero, suc, ◌+◌, ◌*◌, ◌/◌, ◌%◌, ◌^◌, ◌≤◌, ◌<◌, min}
use mathlib.Core.Path.{◌≡◌, refl, sym, ap, ap₂, ◌∙◌}
use native.Mathlib.Omega.{arith}
use lib.Count.{ones, ones_in, ones_step}
use lib.Bits.{bit_and, bit_xor, and_step, and_zero_r, and_le_l, xor_block, xor_shr, xor_mod, xor_shifted, xor_comm}
use Rattle.conv.specs.Label.{parity_of, label_of}

-- a digit more below a
ones-more : (a b : ℕ) → b < 2 → ones (a * 2 + b) ≡ ones a + b
ones-more a b h =
    let low : (a * 2 + b) % 2 ≡ b = omega arith in
    let high : (a * 2 + b) / 2 ≡ a = omega arith in
    ones_step (a * 2 + b) ∙ ap₂ (λ (x y : ℕ). x + ones y) low high ∙ omega arith

parity-step : (g r : ℕ) → parity_of g r ≡ (parity_of (g / 2) (r / 2) + min (g % 2) (r % 2)) % 2
unfolding parity_of
parity-step g r =
    ap (λ (x : ℕ). ones x % 2) (and_step g r)
    ∙ ap (λ (x : ℕ). x % 2) (ones-more (bit_and (g / 2) (r / 2)) (min (g % 2) (r % 2)) (omega arith))
    ∙ omega arith

parity-none : (g : ℕ) → parity_of g 0 ≡ 0
unfolding parity_of ones ones_in
parity-none g = ap (λ (x : ℕ). ones x % 2) (and_zero_r g)

xor-digit : (r s : ℕ) → r < 2 → s < 2 → bit_xor r s ≡ (r + s) % 2
xor-digit zero zero hr hs = refl
xor-digit zero (suc zero) hr hs = refl
xor-digit (suc zero) zero hr hs = refl
xor-digit (suc zero) (suc zero) hr hs = refl
xor-digit (suc (suc r)) s hr hs = omega arith
xor-digit zero (suc (suc s)) hr hs = omega arith
xor-digit (suc zero) (suc (suc s)) hr hs = omega arith

and-digit : (g r s : ℕ) → g < 2 → r < 2 → s < 2 → min g (bit_xor r s) ≡ (min g r + min g s) % 2
and-digit zero r s hg hr hs = omega arith
and-digit (suc zero) r s hg hr hs = omega (arith, xor-digit r s hr hs)
and-digit (suc (suc g)) r s hg hr hs = absurd (omega arith)

mod-sum : (x y : ℕ) → (x + y) % 2 ≡ (x % 2 + y % 2) % 2
mod-sum x y = omega arith

pub mod-sums : (a b c d : ℕ) → ((a + b) % 2 + (c + d) % 2) % 2 ≡ ((a + c) % 2 + (b + d) % 2) % 2
mod-sums a b c d =
    let same : a + b + (c + d) ≡ a + c + (b + d) = omega arith in
    sym (mod-sum (a + b) (c + d)) ∙ ap (λ (x : ℕ). x % 2) same ∙ mod-sum (a + c) (b + d)

-- f bounds the registers, which halve with each step
parity-within : (f g r s : ℕ) → r ≤ f → s ≤ f → parity_of g (bit_xor r s) ≡ (parity_of g r + parity_of g s) % 2
parity-within zero g r s hr hs =
    let er : r ≡ 0 = omega arith in
    let es : s ≡ 0 = omega arith in
    ap₂ (λ (x y : ℕ). parity_of g (bit_xor x y)) er es
    ∙ omega (arith, parity-none g, ap (parity_of g) er, ap (parity_of g) es)
parity-within (suc f) g r s hr hs =
    parity-step g (bit_xor r s)
    ∙ ap₂ (λ (x y : ℕ). (parity_of (g / 2) x + min (g % 2) y) % 2) (xor_shr r s 1) (xor_mod r s 1)
    ∙ ap₂ (λ (x y : ℕ). (x + y) % 2) (parity-within f (g / 2) (r / 2) (s / 2) (omega arith) (omega arith))
    (and-digit (g % 2) (r % 2) (s % 2) (omega arith) (omega arith) (omega arith))
    ∙ mod-sums (parity_of (g / 2) (r / 2)) (parity_of (g / 2) (s / 2)) (min (g % 2) (r % 2)) (min (g % 2) (s % 2))
    ∙ ap₂ (λ (x y : ℕ). (x + y) % 2) (sym (parity-step g r)) (sym (parity-step g s))

parity-xor : (g r s : ℕ) → parity_of g (bit_xor r s) ≡ (parity_of g r + parity_of g s) % 2
parity-xor g r s = parity-within (r + s) g r s (omega arith) (omega arith)

parity-lt : (g r : ℕ) → parity_of g r < 2
unfolding parity_of
parity-lt g r = omega arith

pub label-lt : (r : ℕ) → label_of r < 32
unfolding label_of
label-lt r = omega (arith, parity-lt 0x4441 r, parity-lt 0x7E57 r, parity-lt 0x6095 r, parity-lt 0x443B r, parity-lt 0x69B7 r)

-- five digits as a number, the last one highest
five : ℕ → ℕ → ℕ → ℕ → ℕ → ℕ
five a b c d e = (((e * 2 + d) * 2 + c) * 2 + b) * 2 + a

label-five : (r : ℕ) → label_of r ≡ five (parity_of 0x4441 r) (parity_of 0x7E57 r) (parity_of 0x6095 r) (parity_of 0x443B r) (parity_of 0x69B7 r)
unfolding label_of five
label-five r = omega arith

-- digit by digit, from the highest
module _ (r s : ℕ) where
  xor-parity : (g : ℕ) → bit_xor (parity_of g r) (parity_of g s) ≡ parity_of g (bit_xor r s)
  xor-parity g = xor-digit (parity_of g r) (parity_of g s) (parity-lt g r) (parity-lt g s) ∙ sym (parity-xor g r s)

  xor-more : (g a b z : ℕ) → bit_xor a b ≡ z → bit_xor (a * 2 + parity_of g r) (b * 2 + parity_of g s) ≡ z * 2 + parity_of g (bit_xor r s)
  xor-more g a b z e =
      xor_block 1 a b (parity_of g r) (parity_of g s) (parity-lt g r) (parity-lt g s) ∙ ap₂ (λ (x y : ℕ). x * 2 + y) e (xor-parity g)

  pub label-xor : label_of (bit_xor r s) ≡ bit_xor (label_of r) (label_of s)
  unfolding five
  label-xor =
      label-five (bit_xor r s)
      ∙ sym (xor-more 0x4441 _ _ _ (xor-more 0x7E57 _ _ _ (xor-more 0x6095 _ _ _ (xor-more 0x443B _ _ _ (xor-parity 0x69B7)))))
      ∙ ap₂ bit_xor (sym (label-five r)) (sym (label-five s))

-- a count that computes in d turns
ones-within : (d n : ℕ) → n < 2 ^ d → ones n ≡ ones_in d n
unfolding ones ones_in
ones-within zero n h = let e : n ≡ 0 = omega arith in ap ones e
ones-within (suc d) n h = ones_step n ∙ ap (λ (x : ℕ). n % 2 + x) (ones-within d (n / 2) (omega arith))

parity-computed : (g r : ℕ) → g < 2 ^ 15 → parity_of g r ≡ ones_in 15 (bit_and g r) % 2
unfolding parity_of
parity-computed g r h = ap (λ (x : ℕ). x % 2) (ones-within 15 (bit_and g r) (omega (arith, and_le_l g r)))

unfoldable pub computed : ℕ → ℕ
computed r = ones_in 15 (bit_and 0x4441 r) % 2 + 2 * (ones_in 15 (bit_and 0x7E57 r) % 2) + 4 * (ones_in 15 (bit_and 0x6095 r) % 2)
    + 8 * (ones_in 15 (bit_and 0x443B r) % 2) + 16 * (ones_in 15 (bit_and 0x69B7 r) % 2)

pub label-computed : (r : ℕ) → label_of r ≡ computed r
unfolding label_of computed
label-computed r =
    omega (
      arith,
      parity-computed 0x4441 r (omega arith),
      parity-computed 0x7E57 r (omega arith),
      parity-computed 0x6095 r (omega arith),
      parity-computed 0x443B r (omega arith),
      parity-computed 0x69B7 r (omega arith),
    )

pub label-newest : label_of 1 ≡ 31
unfolding computed ones_in
label-newest = label-computed 1

pub label-oldest : label_of 16384 ≡ 31
unfolding computed ones_in
label-oldest = label-computed 16384

-- a bit more, above all others, makes a register's label another by that bit's own
pub label-power : (k r : ℕ) → r < 2 ^ k → label_of (2 ^ k + r) ≡ bit_xor (label_of r) (label_of (2 ^ k))
label-power k r h =
    let one : 1 * 2 ^ k ≡ 2 ^ k = omega arith in
    ap (λ (x : ℕ). label_of (x + r)) (sym one)
    ∙ ap label_of (sym (xor_shifted 1 k r h) ∙ ap (λ (x : ℕ). bit_xor x r) one ∙ xor_comm (2 ^ k) r)
    ∙ label-xor r (2 ^ k)

-- every generator has the oldest bit of the register, so the two registers that lead to a state have labels that differ in all five bits
pub label-upper : (r : ℕ) → r < 16384 → label_of (r + 16384) ≡ bit_xor (label_of r) 31
label-upper r h =
    let sum : r + 16384 ≡ 16384 + r = omega arith in
    ap label_of sum ∙ label-power 14 r h ∙ ap (bit_xor (label_of r)) label-oldest

-- and the newest, so the two registers of a state have too
pub label-newer : (r : ℕ) → label_of (bit_xor r 1) ≡ bit_xor (label_of r) 31
label-newer r = label-xor r 1 ∙ ap (bit_xor (label_of r)) label-newest
