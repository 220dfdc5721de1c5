-- What the encoder sends turns on the n header bits alone, however they are given: as a list of bytes or as a word in a number. Assumes nothing.
use Prim.Native.Nat.{ℕ, zero, suc, ◌%◌, ◌<◌}
use mathlib.Core.List.{List}
use mathlib.Core.Path.{◌≡◌, refl, ap, ap₂, ◌∙◌}
use native.Mathlib.Omega.{arith}
use lib.ListN.{get_or}
use Rattle.conv.specs.Label.{label_of}
use Rattle.conv.specs.Encoder.{register, state, walk_register, made, bit}
use Rattle.conv.specs.Sent.{bits_of, step_label, labels}
use Rattle.conv.proofs.Slots.{labels_length, labels_at, labels-only}

-- a walk's state after j steps turns on its first j bits
pub state-cong : (N p : ℕ) (b c : ℕ → ℕ) (j : ℕ) → ((i : ℕ) → i < j → b i ≡ c i) → state N p b j ≡ state N p c j
unfolding state
state-cong N p b c zero h = refl
state-cong N p b c (suc j) h =
    ap₂ (λ (x y : ℕ). register x y % N) (state-cong N p b c j (λ i l. h i (omega arith))) (h j (omega arith))

made-cong : (b c : ℕ → ℕ) (n k : ℕ) → ((i : ℕ) → i < n → b i ≡ c i) → made b n k ≡ made c n k
unfolding made
made-cong b c n zero h = refl
made-cong b c zero (suc k) h = refl
made-cong b c (suc n) (suc k) h = ap₂ register (made-cong b c n k (λ i l. h i (omega arith))) (h n (omega arith))

module _ (b c : ℕ → ℕ) (n : ℕ) (same : (i : ℕ) → i < n → b i ≡ c i) where
  label-cong : (j : ℕ) → j < n → step_label b n j ≡ step_label c n j
  unfolding step_label
  label-cong j h =
      ap (λ (p : ℕ). label_of (walk_register 16384 p b j)) (made-cong b c n 14 same)
      ∙ ap label_of (ap₂ register (state-cong 16384 (made c n 14) b c j (λ i l. same i (omega arith))) (same j h))

  pub labels-cong : labels n b ≡ labels n c
  labels-cong = labels-only n c (labels n b) (labels_length n b) (λ j h. labels_at n b j h ∙ label-cong j h)

-- so the header sent as bytes (the promise of `header_values`) is the header sent as the word w (the words of demand 3), where the bytes are w's bits
pub sent_word : (n w : ℕ) (bytes : List ℕ) → ((j : ℕ) → j < n → get_or bytes j 0 ≡ bit w j) → labels n (bits_of bytes) ≡ labels n (bit w)
sent_word n w bytes same = labels-cong (bits_of bytes) (bit w) n same
