-- Document 01, 'A header sent': output bit i is the parity of the ones in generator i AND register.
use Rattle.std.specs.Prelude.{ℕ, ◌+◌, ◌*◌, ◌%◌}
use Rattle.std.specs.Int.Count.{ones}
use Rattle.std.specs.Int.Bits.{bit_and}

unfoldable pub parity_of : ℕ → ℕ → ℕ
parity_of g r = ones (bit_and g r) % 2

-- the generators in octal: 42101, 77127, 60225, 42073, 64667
unfoldable pub label_of : ℕ → ℕ
label_of r = parity_of 0x4441 r + 2 * parity_of 0x7E57 r + 4 * parity_of 0x6095 r + 8 * parity_of 0x443B r + 16 * parity_of 0x69B7 r
