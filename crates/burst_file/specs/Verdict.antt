-- What is told of a burst beside the entries' answers: a header's CRC, and how many symbols are erased.
use Rattle.std.specs.Prelude.{ℕ, zero, suc, ◌+◌, ◌-◌, ◌/◌, ◌%◌, ◌^◌, Bool, false, eqb}
use Rattle.util.specs.Choose.{choose}
use Rattle.util.specs.Refusal.{Outcome, refused, accepted}
use Rattle.util.specs.Table.{tabled}
use Rattle.frame.specs.Format.{header_bits}
use Rattle.frame.specs.Crc.{crc_answer}
use Rattle.wire.specs.Bytes.{high_first}

-- header bit k of a word
unfoldable pub header_bit : ℕ → ℕ → ℕ
header_bit word k = word / 2 ^ k % 2

abbrev pub equals : Outcome ℕ → ℕ → Bool
equals (accepted crc) last = eqb crc last
equals (refused k) last = false

-- the last 16 header bits, the first one highest, are the CRC of those before, in layout k (frame.rs, `parse_header`)
unfoldable pub crc_good : ℕ → ℕ → ℕ → ℕ → Bool
crc_good mode kind k word =
    equals (crc_answer mode kind k (tabled (header_bits kind - 16) (header_bit word))) (high_first 2 (header_bit word) (header_bits kind - 16) 16)

-- how many of the first n places have it
unfoldable pub count_of : (ℕ → Bool) → ℕ → ℕ
count_of has zero = 0
count_of has (suc n) = choose (has n) (count_of has n + 1) (count_of has n)
