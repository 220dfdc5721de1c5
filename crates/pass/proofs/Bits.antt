-- Decisions put into a word from below, the last state first: each moves the earlier ones up by a place. Assumes nothing.
use Prim.Native.Nat.{ℕ, zero, suc, ◌+◌, ◌*◌, ◌-◌, ◌/◌, ◌%◌, ◌^◌, ◌≤◌, ◌<◌}
use mathlib.Core.Bool.{Bool, true, false}
use mathlib.Core.Path.{◌≡◌, refl, sym, ap, ◌∙◌}
use native.Mathlib.Nat.{pow-succ', div-div-eq-div-mul}
use native.Mathlib.Omega.{arith}
use lib.Dec.{eqb}
use lib.Pow.{pow_mono, pow_pos}
use Rattle.util.specs.Choose.{choose}
use Rattle.pass.specs.Areas.{flag}

-- bit 0 of the new word is what went in, bit i + 1 the old word's bit i
flag-first : (word b : ℕ) → b ≤ 1 → flag (word * 2 + b) 0 ≡ eqb b 1
flag-first word b h = let e : (word * 2 + b) / 2 ^ 0 % 2 ≡ b = omega arith in ap (λ (x : ℕ). eqb x 1) e

flag-later : (word b i : ℕ) → b ≤ 1 → flag (word * 2 + b) (suc i) ≡ flag word i
flag-later word b i h =
    let half : (word * 2 + b) / 2 ≡ word = omega arith in
    ap (λ (x : ℕ). eqb (x % 2) 1)
    (ap (λ (m : ℕ). (word * 2 + b) / m) (pow-succ' 2 i) ∙ sym (div-div-eq-div-mul (word * 2 + b) 2 (2 ^ i)) ∙ ap (λ (x : ℕ). x / 2 ^ i) half)

chosen : (t : Bool) → eqb (choose t 1 0) 1 ≡ t
chosen true = refl
chosen false = refl

-- n decisions from place i + 1 on, and that of place i
pub flags-more : (d : ℕ → Bool) (i n word b : ℕ) → b ≡ choose (d i) 1 0 → b ≤ 1 → ((k : ℕ) → k < n → flag word k ≡ d (i + 1 + k))
    → (k : ℕ) → k < n + 1 → flag (word * 2 + b) k ≡ d (i + k)
flags-more d i n word b e h rest zero l =
    let at : i + 0 ≡ i = omega arith in
    flag-first word b h ∙ ap (λ (x : ℕ). eqb x 1) e ∙ chosen (d i) ∙ ap d (sym at)
flags-more d i n word b e h rest (suc k) l =
    let at : i + 1 + k ≡ i + suc k = omega arith in
    flag-later word b k h ∙ rest k (omega arith) ∙ ap d at

-- a word of n bits has room for one more
pub room : {word n : ℕ} → word < 2 ^ n → n < 64 → word * 2 + 1 < 2 ^ 64
room {word} {n} h l = omega (arith, pow_mono {i = n} {j = 63} (omega arith))

pub longer : {word b : ℕ} (n m : ℕ) → m ≡ suc n → word < 2 ^ n → b ≤ 1 → word * 2 + b < 2 ^ m
longer n m e h l = rw e (omega arith)

-- a word of no bits is 0
pub none : {n m : ℕ} → n ≡ m → 0 < 2 ^ (n - m)
none e = pow_pos _
