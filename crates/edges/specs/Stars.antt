-- Document 01's edge list, the ★ entries, in its order: one list.
use Rattle.std.specs.Prelude.{◌≡◌, ℕ, ◌<◌, true, false, List, [], ◌∷◌, ◌++◌, length, replicate, slice_index}
use Rattle.util.specs.Multiplier.{mult_of}
use Rattle.util.specs.Gray.{gray_of}
use Rattle.util.specs.Crc.{crc_of}
use Rattle.frame.specs.Format.{r0}
use Rattle.frame.specs.Air.{bin_of}
use Rattle.conv.specs.Label.{label_of}
use Rattle.conv.specs.Sent.{sent_values}
use Rattle.symbol.specs.Symbol.{erased_of}
use Rattle.ieee.specs.Whole.{plus_zero}
use Rattle.util.specs.Refusal.{accepted}
use Rattle.blocks.specs.declared.Block.{Block}
use Rattle.fit.specs.Fit.{good_blocks, fit_answer}

pub record Stars : Type 0 where
  pub registers : (label_of 0 ≡ 0) × (label_of 1 ≡ 31) × (label_of 2 ≡ 26) × (label_of 3 ≡ 5) × (label_of 16384 ≡ 31) × (label_of 16385 ≡ 0) × (label_of 32767 ≡ 10)
  pub multipliers : (mult_of 0 ≡ 1) × (mult_of 1 ≡ 1) × (mult_of 4 ≡ 3) × (mult_of 5 ≡ 3) × (mult_of 48 ≡ 31) × (mult_of 64 ≡ 41) × (mult_of 100 ≡ 63)
  -- 48 ones send 48 times 10, in both modes, whatever the lent values were
  pub ones : (mode : ℕ) → mode < 2 → (values : List ℕ) → length values ≡ 48 → sent_values mode 0 (replicate 48 1) values ≡ replicate 48 10
  -- 48 bits, only the last set: slot 0 holds 26, slot 17 holds 31
  pub last : (mode : ℕ) → mode < 2 → (values : List ℕ) → length values ≡ 48
      → (slice_index (sent_values mode 0 (replicate 47 0 ++ 1 ∷ []) values) 0 ≡ 26) × (slice_index (sent_values mode 0 (replicate 47 0 ++ 1 ∷ []) values) 17 ≡ 31)
  -- R0 hop 47, value 31
  pub bin : bin_of r0.bins 47 31 ≡ 30
  pub gray : gray_of 31 ≡ 16
  -- the CRC of bit 0 from 0xFFFF
  pub crc : crc_of 0xFFFF (0 ∷ []) ≡ 0xEFDF
  -- window 160: 560 kept, 561 erased, in document 01's layout, which is 1
  pub erasure : (erased_of 1 160 560 ≡ false) × (erased_of 1 160 561 ≡ true)
  -- five blocks: drift 0.0, in both modes, whatever good blocks they are
  pub fit : (mode : ℕ) (bs : List Block) → mode < 2 → length bs ≡ 5 → good_blocks (length bs) bs ≡ true → fit_answer mode bs ≡ accepted plus_zero
