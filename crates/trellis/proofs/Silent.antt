-- Of the header's code only the walk of zeros has label 0 at each of 16 steps or more. Seven bits of three labels in a row add up to bit 3 of
-- the state before them: a fact on 17 digits, checked at each, since labels are linear. So bit 3 of every state is 0, and with it all.
-- Assumes nothing.
use Prim.Native.Nat.{ℕ, zero, suc, ◌+◌, ◌*◌, ◌-◌, ◌/◌, ◌%◌, ◌^◌, ◌≤◌, ◌<◌}
use mathlib.Core.Path.{◌≡◌, refl, sym, ap, ap₂, ◌∙◌}
use native.Mathlib.Nat.{mod-eq_of_lt, zero-div}
use native.Mathlib.Decide.{dec_lt, ℕ_discrete}
use native.Mathlib.Omega.{arith}
use lib.Bits.{bit_xor, xor_shr, xor_mod, xor_add_and, xor_shifted}
use lib.Count.{ones_in}
use lib.Dec.{T, eqb, eqb→eq}
use lib.Pow.{mod-mod-pow, mod-pow-add}
use Rattle.conv.specs.Label.{label_of}
use Rattle.conv.specs.Encoder.{register, state, walk_register, bit}
use Rattle.conv.proofs.Linear.{label-xor, computed, label-computed, label-newest, label-oldest, mod-sums}
use Rattle.conv.proofs.Closed.{state-below}
use Rattle.trellis.proofs.Paths.{bit-lt, bit_at}
use Rattle.trellis.proofs.Every.{every, every-at}

-- ---- functions to a digit that an exclusive or adds up

record Linear (f : ℕ → ℕ) : Type 0 where
  xor : (a b : ℕ) → f (bit_xor a b) ≡ (f a + f b) % 2

-- two of them that agree at each digit agree
agree : {f g : ℕ → ℕ} → Linear f → Linear g → (k : ℕ) → ((i : ℕ) → i < k → f (2 ^ i) ≡ g (2 ^ i)) → (x : ℕ) → x < 2 ^ k → f x ≡ g x
agree {f} {g} F G zero h x l =
    let none : x ≡ 0 = omega arith in
    ap f none ∙ omega (arith, F.xor 0 0, G.xor 0 0) ∙ ap g (sym none)
agree {f} {g} F G (suc k) h x l = go (dec_lt x (2 ^ k)) (λ y. agree F G k (λ i m. h i (omega arith)) y)
  where
    go : Dec (x < 2 ^ k) → ((y : ℕ) → y < 2 ^ k → f y ≡ g y) → f x ≡ g x
    go (yes m) ih = ih x m
    go (no m) ih =
        let r = x - 2 ^ k in
        let one : 1 * 2 ^ k ≡ 2 ^ k = omega arith in
        let below : r < 2 ^ k = omega arith in
        let split : x ≡ bit_xor (1 * 2 ^ k) r = omega (arith, xor_shifted 1 k r below) in
        ap f split ∙ F.xor (1 * 2 ^ k) r ∙ ap₂ (λ (a b : ℕ). (a + b) % 2) (ap f one ∙ h k (omega arith) ∙ ap g (sym one)) (ih r below)
        ∙ sym (G.xor (1 * 2 ^ k) r) ∙ ap g (sym split)

both : {f g : ℕ → ℕ} → Linear f → Linear g → Linear (λ x. (f x + g x) % 2)
both {f} {g} F G = record { xor = λ a b. ap₂ (λ (x y : ℕ). (x + y) % 2) (F.xor a b) (G.xor a b) ∙ mod-sums (f a) (f b) (g a) (g b) }

-- digit i, of a number and of the label of the register that stands s digits up in a window
digit-xor : (i a b : ℕ) → bit_xor a b / 2 ^ i % 2 ≡ (a / 2 ^ i % 2 + b / 2 ^ i % 2) % 2
digit-xor i a b = ap (λ (x : ℕ). x % 2) (xor_shr a b i) ∙ omega (arith, xor_add_and (a / 2 ^ i) (b / 2 ^ i))

label_bit : ℕ → ℕ → ℕ → ℕ
label_bit s i w = computed (w / 2 ^ s % 2 ^ 15) / 2 ^ i % 2

label-linear : (s i : ℕ) → Linear (label_bit s i)
unfolding label_bit
label-linear s i =
    record {
      xor = λ a b.
          let x = a / 2 ^ s % 2 ^ 15 in
          let y = b / 2 ^ s % 2 ^ 15 in
          ap (λ (r : ℕ). computed r / 2 ^ i % 2) (ap (λ (r : ℕ). r % 2 ^ 15) (xor_shr a b s) ∙ xor_mod (a / 2 ^ s) (b / 2 ^ s) 15)
          ∙ ap (λ (r : ℕ). r / 2 ^ i % 2)
          (sym (label-computed (bit_xor x y)) ∙ label-xor x y ∙ ap₂ bit_xor (label-computed x) (label-computed y))
          ∙ digit-xor i (computed x) (computed y);
    }

-- the seven bits, and what they add up to
seven : ℕ → ℕ
seven w =
    (label_bit 2 0 w + (label_bit 2 2 w + (label_bit 1 2 w + (label_bit 1 3 w + (label_bit 1 4 w + (label_bit 0 2 w + label_bit 0 4 w) % 2) % 2) % 2) % 2) % 2) % 2

seven-linear : Linear seven
unfolding seven
seven-linear =
    both (label-linear 2 0)
    (both (label-linear 2 2) (both (label-linear 1 2) (both (label-linear 1 3) (both (label-linear 1 4) (both (label-linear 0 2) (label-linear 0 4))))))

seven-digits : T (every 17 (λ i. eqb (seven (2 ^ i)) (2 ^ i / 2 ^ 6 % 2)))
unfolding every seven label_bit computed ones_in
seven-digits = tt

seven_is : (w : ℕ) → w < 2 ^ 17 → seven w ≡ w / 2 ^ 6 % 2
seven_is w h =
    agree seven-linear (record { xor = digit-xor 6 }) 17
    (λ i l. eqb→eq (seven (2 ^ i)) (2 ^ i / 2 ^ 6 % 2) (every-at 17 (λ j. eqb (seven (2 ^ j)) (2 ^ j / 2 ^ 6 % 2)) seven-digits i l)) w h

-- ---- states

label-none : (t i w r : ℕ) → w / 2 ^ t % 2 ^ 15 ≡ r → label_of r ≡ 0 → label_bit t i w ≡ 0
unfolding label_bit
label-none t i w r e z =
    ap (λ (x : ℕ). computed x / 2 ^ i % 2) e ∙ ap (λ (x : ℕ). x / 2 ^ i % 2) (sym (label-computed r) ∙ z)
    ∙ ap (λ (x : ℕ). x % 2) (zero-div (2 ^ i))

-- a register's oldest bit leaves, step by step
once : (x d : ℕ) → d < 2 → (2 * x + d) % 32768 ≡ 2 * (x % 16384) + d
once x d h = omega arith

twice : (s b c d : ℕ) → b < 2 → c < 2 → d < 2
    → (8 * s + 4 * b + 2 * c + d) / 2 ^ 0 % 2 ^ 15 ≡ register (register (register s b % 16384) c % 16384) d
twice s b c d hb hc hd =
    let x : 8 * s + 4 * b + 2 * c + d ≡ 2 * (2 * register s b + c) + d = omega arith in
    let q = register s b % 16384 in
    let y : (2 * register s b + c) % 16384 ≡ register q c % 16384 = omega arith in
    ap (λ (i : ℕ). i % 32768) (omega (arith, x)) ∙ once (2 * register s b + c) d hd ∙ ap (λ (i : ℕ). 2 * i + d) y

-- a state with the three bits after it
window : (s b c d : ℕ) → s < 16384 → b < 2 → c < 2 → d < 2 → label_of (register s b) ≡ 0 → label_of (register (register s b % 16384) c) ≡ 0
    → label_of (register (register (register s b % 16384) c % 16384) d) ≡ 0 → s / 8 % 2 ≡ 0
unfolding seven
window s b c d hs hb hc hd e f g =
    let w = 8 * s + 4 * b + 2 * c + d in
    let first : (i : ℕ) → label_bit 2 i w ≡ 0 = λ i. label-none 2 i w (register s b) (omega arith) e in
    let second : (i : ℕ) → label_bit 1 i w ≡ 0 = λ i. label-none 1 i w (register (register s b % 16384) c) (omega arith) f in
    let third : (i : ℕ) → label_bit 0 i w ≡ 0 = λ i. label-none 0 i w (register (register (register s b % 16384) c % 16384) d) (twice s b c d hb hc hd) g in
    let silent : seven w ≡ 0 = rw (first 0, first 2, second 2, second 3, second 4, third 2, third 4) refl in
    omega (arith, seven_is w (omega arith), silent)

-- a bit moves one place up
to-three : (x b : ℕ) → b < 2 → register x b % 16384 / 8 % 2 ≡ x / 4 % 2
to-three x b h = omega arith

to-two : (x b : ℕ) → b < 2 → register x b % 16384 / 4 % 2 ≡ x / 2 % 2
to-two x b h = omega arith

to_one : (x b : ℕ) → b < 2 → register x b % 16384 / 2 % 2 ≡ x % 2
to_one x b h = omega arith

halves : (s : ℕ) → (s / 2 / 2 ≡ s / 4) × (s / 4 / 2 ≡ s / 8)
halves s = (omega arith, omega arith)

by-four : (x : ℕ) → x % 2 ≡ 0 → x / 2 % 2 ≡ 0 → x % 4 ≡ 0
by-four x h e = omega arith

by-eight : (x : ℕ) → x % 2 ≡ 0 → x / 2 % 4 ≡ 0 → x % 8 ≡ 0
by-eight x h e = omega arith

by-sixteen : (x : ℕ) → x % 2 ≡ 0 → x / 2 % 8 ≡ 0 → x % 16 ≡ 0
by-sixteen x h e = omega arith

-- bit 3 of a state and of the three after it: its four lowest bits
lowest-four : (s b c d : ℕ) → b < 2 → c < 2 → d < 2 → s / 8 % 2 ≡ 0 → register s b % 16384 / 8 % 2 ≡ 0
    → register (register s b % 16384) c % 16384 / 8 % 2 ≡ 0 → register (register (register s b % 16384) c % 16384) d % 16384 / 8 % 2 ≡ 0
    → s % 16 ≡ 0
lowest-four s b c d hb hc hd e f g h =
    let q = register s b % 16384 in
    let r = register q c % 16384 in
    let two : s / 4 % 2 ≡ 0 = sym (to-three s b hb) ∙ f in
    let one : s / 2 % 2 ≡ 0 = sym (to-two s b hb) ∙ sym (to-three q c hc) ∙ g in
    let none : s % 2 ≡ 0 = sym (to_one s b hb) ∙ sym (to-two q c hc) ∙ sym (to-three r d hd) ∙ h in
    by-sixteen s none (by-eight (s / 2) one (rw (halves s).0 (by-four (s / 4) two (rw (halves s).1 e))))

-- a step that takes a 0 doubles the state
doubled : (s t : ℕ) → t < 10 → s % 2 ^ (t + 4) ≡ 0 → register s 0 % 16384 % 2 ^ (suc t + 4) ≡ 0
doubled s t h e =
    let all : 14 ≡ (10 - suc t) + (suc t + 4) = omega arith in
    let one_more : suc t + 4 ≡ t + 4 + 1 = omega arith in
    let half : register s 0 / 2 ≡ s = omega arith in
    let even : register s 0 % 2 ≡ 0 = omega arith in
    ap (λ (i : ℕ). register s 0 % 2 ^ i % 2 ^ (suc t + 4)) all ∙ mod-mod-pow (register s 0) (10 - suc t) (suc t + 4)
    ∙ ap (λ (i : ℕ). register s 0 % 2 ^ i) one_more ∙ mod-pow-add (register s 0) (t + 4) 1
    ∙ ap₂ (λ (x y : ℕ). x % 2 ^ (t + 4) * 2 + y) half even ∙ omega arith

-- labels 0 into state 0, and out of it
back : (s b : ℕ) → s < 16384 → b < 2 → label_of (register s b) ≡ 0 → register s b % 16384 ≡ 0 → s ≡ 0
back s b hs hb e z = go (ℕ_discrete (register s b) 0)
  where
    go : Dec (register s b ≡ 0) → s ≡ 0
    go (yes r) = omega arith
    go (no r) = let top : register s b ≡ 16384 = omega arith in absurd (omega (arith, label-oldest, ap label_of top))

on : (s b : ℕ) → s ≡ 0 → b < 2 → label_of (register s b) ≡ 0 → b ≡ 0
on s b z hb e = go (ℕ_discrete b 0)
  where
    go : Dec (b ≡ 0) → b ≡ 0
    go (yes r) = r
    go (no r) = let one : register s b ≡ 1 = omega arith in absurd (omega (arith, label-newest, ap label_of one))

-- ---- walks

-- a number with no bit set
no_bits : (n v : ℕ) → v < 2 ^ n → ((j : ℕ) → j < n → bit v j ≡ 0) → v ≡ 0
no_bits zero v l h = omega arith
no_bits (suc n) v l h = go (dec_lt v (2 ^ n)) (λ m. no_bits n v m (λ j k. h j (omega arith)))
  where
    go : Dec (v < 2 ^ n) → (v < 2 ^ n → v ≡ 0) → v ≡ 0
    go (yes m) ih = ih m
    go (no m) ih =
        let r = v - 2 ^ n in
        let split : 1 * 2 ^ n + r ≡ v = omega arith in
        absurd (omega (arith, bit_at 1 r n (omega arith) (omega arith), ap (λ (x : ℕ). bit x n) split, h n (omega arith)))

module _ (p v n : ℕ) (p-lt : p < 16384) (long : 16 ≤ n) (silent : (j : ℕ) → j < n → label_of (walk_register 16384 p (bit v) j) ≡ 0) where
  s : ℕ → ℕ
  s j = state 16384 p (bit v) j

  s-lt : (j : ℕ) → s j < 16384
  unfolding s
  s-lt j = state-below (bit v) (bit-lt v) 16384 p j p-lt

  third : (j : ℕ) → j + 3 ≤ n → s j / 8 % 2 ≡ 0
  unfolding s state
  third j h =
      window (s j) (bit v j) (bit v (suc j)) (bit v (suc (suc j))) (s-lt j) (bit-lt v j) (bit-lt v (suc j)) (bit-lt v (suc (suc j)))
      (silent j (omega arith)) (silent (suc j) (omega arith)) (silent (suc (suc j)) (omega arith))

  four : (j : ℕ) → j + 6 ≤ n → s j % 16 ≡ 0
  unfolding s state
  four j h =
      lowest-four (s j) (bit v j) (bit v (suc j)) (bit v (suc (suc j))) (bit-lt v j) (bit-lt v (suc j)) (bit-lt v (suc (suc j)))
      (third j (omega arith)) (third (suc j) (omega arith)) (third (suc (suc j)) (omega arith)) (third (suc (suc (suc j))) (omega arith))

  took-zero : (j : ℕ) → j + 7 ≤ n → bit v j ≡ 0
  unfolding s state
  took-zero j h = omega (arith, four (suc j) (omega arith), bit-lt v j)

  divided : (t : ℕ) → t ≤ 10 → s t % 2 ^ (t + 4) ≡ 0
  unfolding s state
  divided zero h = four 0 (omega arith)
  divided (suc t) h =
      ap (λ (b : ℕ). register (s t) b % 16384 % 2 ^ (suc t + 4)) (took-zero t (omega arith)) ∙ doubled (s t) t h (divided t (omega arith))

  tenth : s 10 ≡ 0
  tenth = sym (mod-eq_of_lt (s-lt 10)) ∙ divided 10 (omega arith)

  begun : (k : ℕ) → k ≤ n → s k ≡ 0 → p ≡ 0
  unfolding s state
  begun zero h e = e
  begun (suc k) h e = begun k (omega arith) (back (s k) (bit v k) (s-lt k) (bit-lt v k) (silent k h) e)

  goes_on : (j : ℕ) → j ≤ n → s j ≡ 0
  unfolding s state
  goes_on zero h = begun 10 (omega arith) tenth
  goes_on (suc j) h =
      let z = goes_on j (omega arith) in
      ap₂ (λ (q b : ℕ). register q b % 16384) z (on (s j) (bit v j) z (bit-lt v j) (silent j h))

  pub only-zeros : v < 2 ^ n → (p ≡ 0) × (v ≡ 0)
  unfolding s
  only-zeros l =
      (begun 10 (omega arith) tenth, no_bits n v l (λ j h. on (s j) (bit v j) (goes_on j (omega arith)) (bit-lt v j) (silent j h)))
