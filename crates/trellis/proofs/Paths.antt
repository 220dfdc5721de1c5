-- The trellis alone: every register below 2N is the lower or the upper one of the state that it leads to, and a traceback is a walk that
-- ends where the traceback began. Assumes nothing.
use Prim.Native.Nat.{ℕ, zero, suc, ◌+◌, ◌*◌, ◌-◌, ◌/◌, ◌%◌, ◌^◌, ◌≤◌, ◌<◌}
use mathlib.Core.Path.{◌≡◌, refl, sym, ap, ap₂, ◌∙◌}
use mathlib.Core.Bool.{Bool, true, false}
use native.Mathlib.Nat.{mod-eq_of_lt, mod-eq-sub-mod}
use native.Mathlib.Decide.{dec_lt}
use native.Mathlib.Omega.{arith}
use lib.Pow.{high, low, field, mod-mod-pow}
use Rattle.conv.specs.Encoder.{register, state, walk_register, bit}
use Rattle.conv.proofs.Bits.{state-cong}
use Rattle.trellis.specs.Search.{came_by, trace_start, trace_word}

-- ---- bits of a word

pub bit-lt : (w j : ℕ) → bit w j < 2
bit-lt w j = omega arith

-- the bits below place j do not see what stands at j and above
bit_below : (c w : ℕ) {i j : ℕ} → i < j → w < 2 ^ j → bit (c * 2 ^ j + w) i ≡ bit w i
bit_below c w {i} {j} h l = sym (field (c * 2 ^ j + w) 1 i) ∙ ap (λ (x : ℕ). x / 2 ^ i) cut ∙ field w 1 i
  where
    cut : (c * 2 ^ j + w) % 2 ^ (1 + i) ≡ w % 2 ^ (1 + i)
    cut =
        sym (mod-mod-pow (c * 2 ^ j + w) (j - (1 + i)) (1 + i)) ∙ ap (λ (x : ℕ). (c * 2 ^ j + w) % 2 ^ x % 2 ^ (1 + i)) (omega arith)
        ∙ ap (λ (x : ℕ). x % 2 ^ (1 + i)) (low c j l)

-- and the bit at j is what stands there
pub bit_at : (c w j : ℕ) → c < 2 → w < 2 ^ j → bit (c * 2 ^ j + w) j ≡ c
bit_at c w j h l = ap (λ (x : ℕ). x % 2) (high c j l) ∙ mod-eq_of_lt h

-- ---- the register by which a state is reached

module _ {N s : ℕ} (even : N % 2 ≡ 0) (h : s < N) where
  came-lt : (d : Bool) → came_by N d s / 2 < N
  came-lt false = omega arith
  came-lt true = omega arith

  came-register : (d : Bool) → register (came_by N d s / 2) (s % 2) ≡ came_by N d s
  came-register false = omega arith
  came-register true = omega arith

  came-mod : (d : Bool) → came_by N d s % N ≡ s
  came-mod false = mod-eq_of_lt h
  came-mod true =
      mod-eq-sub-mod {n = s + N} {m = N} (omega arith) ∙ ap (λ (x : ℕ). x % N) (omega arith) ∙ mod-eq_of_lt h

-- the other way: each register is the lower or the upper one of the state that it leads to
pub register-came : (N r : ℕ) → r < N + N → (d : Bool) × (came_by N d (r % N) ≡ r)
register-came N r h = go (dec_lt r N)
  where
    go : Dec (r < N) → (d : Bool) × (came_by N d (r % N) ≡ r)
    go (yes l) = (false, mod-eq_of_lt l)
    go (no g) = (true, rw (mod-eq-sub-mod {n = r} {m = N} (omega arith), mod-eq_of_lt {n = r - N} {m = N} (omega arith)) (omega arith))

-- ---- a traceback is a walk that ends where the traceback began

-- one bit more on top of a word below 2 ^ j
word_lt : (c w j : ℕ) → c < 2 → w < 2 ^ j → c * 2 ^ j + w < 2 ^ suc j
word_lt zero w j h l = omega arith
word_lt (suc zero) w j h l = omega arith
word_lt (suc (suc c)) w j h l = omega arith

pub trace-word-lt : (N : ℕ) (d : ℕ → ℕ → Bool) (j s : ℕ) → trace_word N d j s < 2 ^ j
unfolding trace_word
trace-word-lt N d zero s = omega arith
trace-word-lt N d (suc j) s = word_lt (s % 2) _ j (omega arith) (trace-word-lt N d j (came_by N (d j s) s / 2))

pub trace-start-lt : {N : ℕ} → N % 2 ≡ 0 → (d : ℕ → ℕ → Bool) (j : ℕ) {s : ℕ} → s < N → trace_start N d j s < N
unfolding trace_start
trace-start-lt even d zero h = h
trace-start-lt even d (suc j) {s} h = trace-start-lt even d j (came-lt even h (d j s))

-- The last step of a traceback of j + 1 steps, as a walk: before it stands the traceback of j steps, and its register is the one decided for.
module _ (N : ℕ) (even : N % 2 ≡ 0) (d : ℕ → ℕ → Bool) where
  unfoldable pub before : ℕ → ℕ → ℕ
  before j s = came_by N (d j s) s / 2

  pub trace-bit : (j s i : ℕ) → i < j → bit (trace_word N d (suc j) s) i ≡ bit (trace_word N d j (before j s)) i
  unfolding trace_word before
  trace-bit j s i h = bit_below (s % 2) _ h (trace-word-lt N d j (before j s))

  trace-top : (j s : ℕ) → bit (trace_word N d (suc j) s) j ≡ s % 2
  unfolding trace_word before
  trace-top j s = bit_at (s % 2) _ j (omega arith) (trace-word-lt N d j (before j s))

  pub before-lt : (j : ℕ) {s : ℕ} → s < N → before j s < N
  unfolding before
  before-lt j {s} h = came-lt even h (d j s)

  -- the register of the last step, from what is known of the steps before it
  last-register : (j : ℕ) {s : ℕ} → s < N → state N (trace_start N d j (before j s)) (bit (trace_word N d j (before j s))) j ≡ before j s
      → walk_register N (trace_start N d (suc j) s) (bit (trace_word N d (suc j) s)) j ≡ came_by N (d j s) s
  unfolding trace_start before
  last-register j {s} h ih =
      ap₂ register (state-cong N _ _ _ j (trace-bit j s) ∙ ih) (trace-top j s) ∙ came-register even h (d j s)

  -- a traceback is a walk that ends where the traceback began
  pub trace-state : (j : ℕ) {s : ℕ} → s < N → state N (trace_start N d j s) (bit (trace_word N d j s)) j ≡ s
  unfolding trace_start trace_word state
  trace-state zero h = refl
  trace-state (suc j) {s} h =
      ap (λ (x : ℕ). x % N) (last-register j h (trace-state j (before-lt j h))) ∙ came-mod even h (d j s)

  pub trace-register : (j : ℕ) {s : ℕ} → s < N
      → walk_register N (trace_start N d (suc j) s) (bit (trace_word N d (suc j) s)) j ≡ came_by N (d j s) s
  trace-register j h = last-register j h (trace-state j (before-lt j h))

-- ---- a traceback turns on the decisions of its own steps at the states alone

module _ {N : ℕ} (even : N % 2 ≡ 0) {d e : ℕ → ℕ → Bool} (n : ℕ) (agree : (j s : ℕ) → j < n → s < N → d j s ≡ e j s) where
  pub trace-start-cong : (j s : ℕ) → j ≤ n → s < N → trace_start N d j s ≡ trace_start N e j s
  unfolding trace_start
  trace-start-cong zero s h l = refl
  trace-start-cong (suc j) s h l =
      trace-start-cong j _ (omega arith) (came-lt even l (d j s)) ∙ ap (λ (b : Bool). trace_start N e j (came_by N b s / 2)) (agree j s h l)

  pub trace-word-cong : (j s : ℕ) → j ≤ n → s < N → trace_word N d j s ≡ trace_word N e j s
  unfolding trace_word
  trace-word-cong zero s h l = refl
  trace-word-cong (suc j) s h l =
      ap (λ (w : ℕ). s % 2 * 2 ^ j + w)
      (trace-word-cong j _ (omega arith) (came-lt even l (d j s)) ∙ ap (λ (b : Bool). trace_word N e j (came_by N b s / 2)) (agree j s h l))
