-- Erasure in whole numbers is the f32 quotient above one half: a quotient of at most 1/2 rounds to at most 1/2, and one above it
-- is at least 1/2 + 2^-24, which f32 holds. Assumes nothing.
use Prim.Native.Nat.{ℕ, zero, suc, ◌+◌, ◌*◌, ◌/◌, ◌^◌, ◌≤◌, ◌<◌}
use mathlib.Core.Bool.{Bool, true, false, not, true≢false}
use mathlib.Core.Path.{◌≡◌, refl, sym, ap, subst, ◌∙◌}
use native.Mathlib.Nat.{mul_comm, mul-pos}
use native.Mathlib.Omega.{arith}
use borrow.Author.Tests.{ltb-true, ltb-false}
use lib.Dec.{T, ltb, lit<, eqb-suc-zero}
use lib.IntN.{pos, negsuc}
use lib.Ieee.{Float, nan, inf, fin, binary32, up, down, round, of_int, div, lt, le, is_nan}
use lib.Ieee.Back.{round_whole}
use lib.Ieee.Bits.{is_true, is_false}
use lib.Ieee.Exact.{HasValue}
use lib.Ieee.Order.{round_mono}
use lib.Ieee.Positive.{den_pos}
use lib.Ieee.Scale.{round_same}
use Rattle.ieee.proofs.Order.{le_trans, not-lt→le, le→not-lt, not-nan}
use Rattle.lse.specs.Lse.{float32}
use Rattle.symbol.specs.Symbol.{erased_of, span_of, one_half, blanked_frac, mostly_blanked}

-- the next float up
abbrev next : Float
next = fin false 8388609 (negsuc 23)

halves : (round binary32 false 1 2 ≡ one_half) × (round binary32 false 8388609 16777216 ≡ next)
unfolding round
halves = (refl, refl)

plain : T (not (is_nan one_half))
unfolding is_nan
plain = tt

apart : T (le next one_half) → ⊥
unfolding le
apart h = h

-- the quotient of two whole floats is the fraction, rounded
cross : (u v a d E K : ℕ) → u * 1 ≡ a * E → v * 1 ≡ d * K → u * K * d ≡ a * (v * E)
cross u v a d E K p q = omega (arith, ap (λ (z : ℕ). z * (K * d)) p, ap (λ (z : ℕ). z * (a * E)) q)

quotient : (x y : Float) (a d : ℕ) → HasValue x false a 1 → HasValue y false d 1 → 0 < d → div binary32 x y ≡ round binary32 false a d
unfolding div
quotient nan y a d p q h = absurd p
quotient (inf s) y a d p q h = absurd p
quotient (fin true m e) y a d p q h = absurd (true≢false p.0)
quotient (fin false m e) nan a d p q h = absurd q
quotient (fin false m e) (inf t) a d p q h = absurd q
quotient (fin false m e) (fin true n k) a d p q h = absurd (true≢false q.0)
quotient (fin false m e) (fin false zero k) a d p q h = absurd (omega (arith, q.1, mul-pos h (den_pos (fin false zero k))))
quotient (fin false m e) (fin false (suc n) k) a d p q h =
    rw (eqb-suc-zero n)
    (round_same binary32 false (m * up e * down k) (suc n * up k * down e) a d
    (mul-pos (omega (arith, q.1, mul-pos h (den_pos (fin false (suc n) k)))) (den_pos (fin false m e))) h
    (cross (m * up e) (suc n * up k) a d (down e) (down k) p.1 q.1))

-- count / divisor in f32
abbrev fraction : ℕ → ℕ → Float
fraction count divisor = div binary32 (of_int binary32 (pos count)) (of_int binary32 (pos divisor))

fraction-is : (c d : ℕ) → c ≤ 2 ^ 24 → d ≤ 2 ^ 24 → 0 < d → fraction c d ≡ round binary32 false c d
unfolding of_int
fraction-is c d hc hd h =
    quotient (round binary32 false c 1) (round binary32 false d 1) c d (round_whole binary32 false c hc) (round_whole binary32 false d hd) h

not-above : (c d : ℕ) → 0 < d → 2 * c ≤ d → T (not (lt one_half (round binary32 false c d)))
not-above c d h l = le→not-lt (round binary32 false c d) one_half
    (subst (λ (z : Float). T (le (round binary32 false c d) z)) halves.0 (round_mono binary32 c d 1 2 h (lit< tt) (omega arith)))

is-above : (c d : ℕ) → 0 < d → d ≤ 2 ^ 23 → d < 2 * c → T (lt one_half (round binary32 false c d))
is-above c d h m l =
    let up : T (le next (round binary32 false c d)) = subst (λ (z : Float). T (le z (round binary32 false c d))) halves.1
    (round_mono binary32 8388609 16777216 c d (lit< tt) h (omega arith)) in
    go (lt one_half (round binary32 false c d))
    (λ n. le_trans next (round binary32 false c d) one_half up
    (not-lt→le one_half (round binary32 false c d) plain (not-nan next (round binary32 false c d) up).1 n))
  where
    go : (b : Bool) → (T (not b) → T (le next one_half)) → T b
    go true f = tt
    go false f = absurd (apart (f tt))

-- any count below 2^24 and any divisor from 1 to 2^23
pub above_half : (count divisor : ℕ) → count < 2 ^ 24 → 0 < divisor → divisor ≤ 2 ^ 23 → lt one_half (fraction count divisor) ≡ ltb divisor (2 * count)
above_half c d hc h hd = ap (lt one_half) (fraction-is c d (omega arith) (omega arith) h) ∙ by (ltb d (2 * c)) refl
  where
    by : (b : Bool) → ltb d (2 * c) ≡ b → lt one_half (round binary32 false c d) ≡ ltb d (2 * c)
    by true e = is_true _ (is-above c d h hd (ltb-true d (2 * c) e)) ∙ sym e
    by false e = is_false _ (not-above c d h (ltb-false d (2 * c) e)) ∙ sym e

-- the audio samples behind a symbol, as the Rust counts them and as document 02 does
span-is : (k window : ℕ) → window * span_of k ≡ (6 * k + 1) * window
unfolding span_of
span-is k window =
    let odd : 2 * (6 * k / 2) + 1 ≡ 6 * k + 1 = omega arith in
    ap (λ (z : ℕ). window * z) odd ∙ mul_comm window (6 * k + 1)

-- so of any layout and window, as long as so many samples are a divisor: erasure is the Rust's test of `blanked_frac`
pub erased-is : (k window count : ℕ) → count < 2 ^ 24 → 0 < window → (6 * k + 1) * window ≤ 2 ^ 23
    → erased_of k window count ≡ mostly_blanked k window count
unfolding erased_of mostly_blanked blanked_frac float32
erased-is k window count hc h hd =
    sym (ap (λ (d : ℕ). lt one_half (fraction count d)) (span-is k window)
    ∙ above_half count ((6 * k + 1) * window) hc (mul-pos (omega arith) h) hd)

-- layout 1 erases as document 01 does
pub full-band : (window count : ℕ) → erased_of 1 window count ≡ ltb (7 * window) (2 * count)
unfolding erased_of
full-band window count = refl
