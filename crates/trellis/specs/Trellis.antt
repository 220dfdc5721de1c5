-- Document 01, the words of demand 3: walks and what they score, over any kind of score. Registers and states are the encoder's (crate conv).
-- 'Walk' and 'closed' are document 01's words: in the field's own, a path through the trellis, and one that bites its tail.
use Rattle.std.specs.Prelude.{ℕ}
use Rattle.conv.specs.Encoder.{walk_register, made, bit}
use Rattle.trellis.specs.Scale.{Scale, sum}

-- a code's states (16,384 for the header's), as many steps as a header has symbols, and what register r earns at step j (its branch metric)
pub record Trellis (A : Type 0) : Type 0 where
  pub scale : Scale A
  pub states : ℕ
  pub steps : ℕ
  pub earn : ℕ → ℕ → A

module _ {A : Type 0} (X : Trellis A) where
  -- a walk is any start state p with any n bits, here a word; its score is the sum of what its steps earn
  abbrev pub walk_score : ℕ → ℕ → A
  walk_score p w = sum X.scale (λ j. X.earn j (walk_register X.states p (bit w) j)) X.steps

  -- any n bits are a closed word: its walk takes them in order from the state made of its last K
  abbrev pub closed_score : ℕ → ℕ → A
  closed_score K w = walk_score (made (bit w) X.steps K) w
