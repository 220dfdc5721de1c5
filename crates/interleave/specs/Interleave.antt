-- Document 01, 'Modes and air order' and 'Metrics and soft bits': the scramblers and the receiving halves of both
-- interleavers. The scramblers' constants are the Rust's (phy_mfsk/frame.rs), which document 01 takes by name.
use Rattle.std.specs.Prelude.{ℕ, ◌+◌, ◌/◌, ◌%◌, eqb, Float}
use Rattle.std.specs.Int.Bits.{bit_xor}
use Rattle.std.specs.Float.Ieee.{neg}
use Rattle.util.specs.Choose.{choose}
use Rattle.util.specs.SplitMix.{first_output}
use Rattle.frame.specs.Air.{slot_of}

-- symbols = ceil(bits/5)
abbrev pub symbols_of : ℕ → ℕ
symbols_of bits = (bits + 4) / 5

-- the scrambling bit of data bit p, and the scrambling value of code symbol p
unfoldable pub scramble_of : ℕ → ℕ
scramble_of p = first_output (bit_xor p 0x5343_5241_4D42_4C45) % 2

unfoldable pub sym_scramble_of : ℕ → ℕ
sym_scramble_of p = first_output (bit_xor p 0x5359_4D42_5343_524D) % 32

-- `deinterleave`: soft bit p is what slot (a·p) mod n holds, with the other sign where the scrambling bit is 1; so a zero
-- turns its sign too
unfoldable pub bit_back : ℕ → (ℕ → Float) → ℕ → Float
bit_back n slots p = choose (eqb (scramble_of p) 1) (neg (slots (slot_of n p))) (slots (slot_of n p))

-- `deinterleave_sym`: metric c of code symbol p is that of value c xor its scrambling value in slot (a·p) mod n
unfoldable pub sym_back : ℕ → (ℕ → ℕ → Float) → ℕ → ℕ → Float
sym_back n slots p c = slots (slot_of n p) (bit_xor c (sym_scramble_of p))
