-- Step by step the labels fill the slots: a step's slot holds its label, and no other list is so.
-- Assumes nothing.
use Prim.Native.Nat.{ℕ, ◌<◌}
use mathlib.Core.List.{List}
use mathlib.Core.Path.{◌≡◌, ◌∙◌}
use native.Mathlib.Omega.{arith}
use lib.ListN.{length, get_or, replicate, length-replicate}
use Rattle.frame.specs.Air.{slot_of, placed}
use Rattle.frame.proofs.Placed.{placed-length, placed_at, placed-only, placed-over}
use Rattle.conv.specs.Sent.{step_label, labels}

module _ (n : ℕ) (bits : ℕ → ℕ) where
  pub labels_length : length (labels n bits) ≡ n
  unfolding labels
  labels_length = placed-length n (step_label bits n) (replicate n 0) n ∙ length-replicate n 0

  pub labels_at : (j : ℕ) → j < n → get_or (labels n bits) (slot_of n j) 0 ≡ step_label bits n j
  unfolding labels
  labels_at j h = placed_at n (step_label bits n) (replicate n 0) n j (length-replicate n 0) (omega arith) h

  pub labels-only : (l : List ℕ) → length l ≡ n → ((j : ℕ) → j < n → get_or l (slot_of n j) 0 ≡ step_label bits n j) → l ≡ labels n bits
  unfolding labels
  labels-only l len at = placed-only n (step_label bits n) (replicate n 0) l (length-replicate n 0) len at

  -- written over any list of n slots
  pub labels-over : (was : List ℕ) → length was ≡ n → placed n (step_label bits n) n was ≡ labels n bits
  unfolding labels
  labels-over was e = placed-over n (step_label bits n) (replicate n 0) was (length-replicate n 0) e
