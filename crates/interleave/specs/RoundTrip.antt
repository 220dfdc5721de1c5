-- Document 02, #101: what the receiving halves make of a sent message.
use Rattle.std.specs.Prelude.{ℕ, ◌+◌, ◌*◌, ◌<◌, true, false, List, map, ◌≡◌, eqb, Float, pos, length, get_or}
use Rattle.std.specs.Float.{fin, nan}
use Rattle.util.specs.Choose.{choose}
use Rattle.util.specs.Table.{tabled, rows}
use Rattle.frame.specs.Air.{slot_of}
use Rattle.interleave.specs.Interleave.{bit_back, sym_back}
use Rattle.interleave.specs.Sending.{slots_for, scrambled_bit, scrambled_symbol}

-- a sent bit as a soft bit: +1 for 0 and -1 for 1
abbrev pub sign : ℕ → Float
sign bit = choose (eqb bit 0) (fin false 1 (pos 0)) (fin true 1 (pos 0))

-- what `deinterleave` hands out for so many bits of these slots, and `deinterleave_sym` of the 32 metrics of each of n
-- slots: their promises
abbrev pub bits_back : ℕ → List Float → List Float
bits_back bits slots = tabled bits (bit_back (slots_for bits) (λ s. get_or slots s nan))

abbrev pub metrics_back : ℕ → List Float → List Float
metrics_back n slots = tabled (32 * n) (rows 32 (sym_back n (λ s v. get_or slots (32 * s + v) nan)))

-- slots that carry these bits
pub record BitsSent (bits slots : List ℕ) : Type 0 where
  pub size : length slots ≡ slots_for (length bits)
  -- the slot of a bit holds it scrambled, and a slot that no bit reaches holds 0
  pub reached : (p : ℕ) → p < length bits → get_or slots (slot_of (slots_for (length bits)) p) 0 ≡ scrambled_bit bits p
  pub unreached : (s : ℕ) → ((p : ℕ) → p < length bits → slot_of (slots_for (length bits)) p ≡ s → ⊥) → get_or slots s 0 ≡ 0
  -- reading each sent bit as a soft bit of its sign restores every sign
  pub restored : bits_back (length bits) (map sign slots) ≡ map sign bits

-- values that carry these symbols, one a slot
pub record SymbolsSent (symbols values : List ℕ) : Type 0 where
  pub size : length values ≡ length symbols
  pub reached : (p : ℕ) → p < length symbols → get_or values (slot_of (length symbols) p) 0 ≡ scrambled_symbol symbols p
  -- each is one of the 32 values of a tone
  pub tones : (s : ℕ) → s < length values → get_or values s 0 < 32
  -- of any metrics, a slot's metric for its sent value lands on the symbol's own value
  pub lands : (metrics : List Float) (p : ℕ) → p < length symbols
      → get_or (metrics_back (length symbols) metrics) (32 * p + get_or symbols p 0) nan
      ≡ get_or metrics (32 * slot_of (length symbols) p + get_or values (slot_of (length symbols) p) 0) nan
