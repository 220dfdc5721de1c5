-- The four registers of a butterfly: labels are linear, so their metrics stand in two rows. Assumes nothing.
use Prim.Native.Nat.{ℕ, ◌+◌, ◌*◌, ◌-◌, ◌/◌, ◌<◌}
use mathlib.Core.List.{List}
use mathlib.Core.Path.{◌≡◌, sym, ap, ap₂, ◌∙◌}
use native.Mathlib.Nat.{mod-eq_of_lt}
use native.Mathlib.Omega.{arith}
use lib.Bits.{bit_xor, and_mask, xor_add_and, xor_shifted}
use lib.Ieee.{Float, lt, add, binary32}
use Rattle.util.specs.Choose.{choose}
use Rattle.conv.specs.Label.{label_of}
use Rattle.conv.proofs.Linear.{label-lt, label-xor, label-upper, label-newer}
use Rattle.trellis.specs.Search.{brings, upper, step}
use Rattle.pass.specs.Areas.{table, over}
use Rattle.butterfly.specs.Blocks.{Rows}

-- ---- labels

-- within a block: that of its first register, another by that of the place
label-block : (h k : ℕ) → k < 16 → label_of (h * 32 + k * 2) ≡ bit_xor (label_of (h * 32)) (label_of (k * 2))
label-block h k l = ap label_of (sym (xor_shifted h 5 (k * 2) (omega arith))) ∙ label-xor (h * 32) (k * 2)

-- all five bits turned
turned : (x : ℕ) → x < 32 → bit_xor x 31 ≡ 31 - x
turned x h = omega (arith, xor_add_and x 31, and_mask x 5, mod-eq_of_lt h)

label-turned : (r : ℕ) → bit_xor (label_of r) 31 ≡ 31 - label_of r
label-turned r = turned (label_of r) (label-lt r)

-- ---- a butterfly of block h, whose first register has label l

module _ {metrics rows : List Float} {j : ℕ} (tab : Rows metrics j rows) (h k l : ℕ) (hh : h < 512) (hk : k < 16) (el : l ≡ label_of (h * 32)) where
  -- the even state's lower register; the register behind it is the odd state's
  even : ℕ
  even = h * 32 + 2 * k

  entry : (b g : ℕ) → b < 32 → b ≡ label_of (g * 32) → (r : ℕ) → r ≡ g * 32 + k * 2 → table rows (16 * b + k) ≡ table metrics (j * 32 + label_of r)
  entry b g small e r er =
      tab.at b k small hk
      ∙ ap (λ (x : ℕ). table metrics (j * 32 + x)) (ap (λ (x : ℕ). bit_xor x (label_of (k * 2))) e ∙ sym (label-block g k hk) ∙ ap label_of (sym er))

  -- row l has the metric of the even state's lower register, row 31 - l that of its upper one
  one : table rows (16 * l + k) ≡ table metrics (j * 32 + label_of even)
  unfolding even
  one = entry l h (omega (arith, el, label-lt (h * 32))) el even (omega arith)

  other : table rows (16 * (31 - l) + k) ≡ table metrics (j * 32 + label_of (even + 16384))
  unfolding even
  other =
      let far : h * 32 + 16384 ≡ (h + 512) * 32 = omega arith in
      let first : 31 - l ≡ label_of ((h + 512) * 32) =
      ap (λ (x : ℕ). 31 - x) el ∙ sym (label-turned (h * 32)) ∙ sym (label-upper (h * 32) (omega arith)) ∙ ap label_of far in
      entry (31 - l) (h + 512) (omega arith) first (even + 16384) (omega arith)

  -- the odd state has the same two labels, the other way round
  odd-lower : label_of (even + 1) ≡ label_of (even + 16384)
  unfolding even
  odd-lower =
      let pair : (h * 16 + k) * 2 ≡ even = omega arith in
      ap (λ (x : ℕ). label_of (x + 1)) (sym pair)
      ∙ ap label_of (sym (xor_shifted (h * 16 + k) 1 1 (omega arith)))
      ∙ label-newer ((h * 16 + k) * 2)
      ∙ ap (λ (x : ℕ). bit_xor (label_of x) 31) pair
      ∙ sym (label-upper even (omega arith))

  odd-upper : label_of (even + 1 + 16384) ≡ label_of even
  unfolding even
  odd-upper =
      let far = label-upper (even + 1) (omega arith) in
      let near = label-upper even (omega arith) in
      omega (arith, far, near, odd-lower, label-turned (even + 1), label-turned even, label-lt even)

  -- what each of the four registers brings
  module _ (scores : List Float) where
    by : (i r : ℕ) {u : Float} → i ≡ r / 2 → u ≡ table metrics (j * 32 + label_of r) → add binary32 (table scores i) u ≡ brings (over metrics) (table scores) j r
    by i r ei eu = ap₂ (λ (p : ℕ) (x : Float). add binary32 (table scores p) x) ei eu

    pub even-lower-brings : add binary32 (table scores (h * 16 + k)) (table rows (16 * l + k)) ≡ brings (over metrics) (table scores) j (h * 32 + 2 * k)
    unfolding even
    even-lower-brings = by (h * 16 + k) even (omega arith) one

    pub even-upper-brings : add binary32 (table scores (h * 16 + 8192 + k)) (table rows (16 * (31 - l) + k))
        ≡ brings (over metrics) (table scores) j (h * 32 + 2 * k + 16384)
    unfolding even
    even-upper-brings = by (h * 16 + 8192 + k) (even + 16384) (omega arith) other

    pub odd-lower-brings : add binary32 (table scores (h * 16 + k)) (table rows (16 * (31 - l) + k))
        ≡ brings (over metrics) (table scores) j (h * 32 + 2 * k + 1)
    unfolding even
    odd-lower-brings = by (h * 16 + k) (even + 1) (omega arith) (other ∙ ap (λ (x : ℕ). table metrics (j * 32 + x)) (sym odd-lower))

    pub odd-upper-brings : add binary32 (table scores (h * 16 + 8192 + k)) (table rows (16 * l + k))
        ≡ brings (over metrics) (table scores) j (h * 32 + 2 * k + 1 + 16384)
    unfolding even
    odd-upper-brings = by (h * 16 + 8192 + k) (even + 1 + 16384) (omega arith) (one ∙ ap (λ (x : ℕ). table metrics (j * 32 + x)) (sym odd-upper))

-- what is stored for state s, and its decision, from what its two registers bring
module _ (metrics : List Float) (f : ℕ → Float) (j s : ℕ) {a b : Float}
    (ea : a ≡ brings (over metrics) f j s) (eb : b ≡ brings (over metrics) f j (s + 16384)) where
  pub score-is : {r : Float} → r ≡ choose (lt a b) b a → r ≡ step (over metrics) f j s
  score-is e = cc

  pub decision-is : {p q r : ℕ} → r ≡ choose (lt a b) p 0 → p ≡ q → r ≡ choose (upper (over metrics) f j s) q 0
  decision-is e ep = cc
