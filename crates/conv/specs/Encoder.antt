-- Document 01, 'A header sent' and the words of demand 3: the trellis that the encoder walks through. N is how many
-- states there are, 16,384 for the header's code. Bits are a function of their place, so that a list of bytes and a
-- word in a number are encoded by the same text.
use Rattle.std.specs.Prelude.{ℕ, zero, suc, ◌+◌, ◌*◌, ◌/◌, ◌%◌, ◌^◌}

-- state p with bit b has register 2p + b: the newest bit is the lowest
abbrev pub register : ℕ → ℕ → ℕ
register p b = 2 * p + b

-- the state of a walk after j steps, from p with these bits: a register leads to the state that it is modulo N
unfoldable pub state : ℕ → ℕ → (ℕ → ℕ) → ℕ → ℕ
state N p bits zero = p
state N p bits (suc j) = register (state N p bits j) (bits j) % N

-- the register of a walk at step j
abbrev pub walk_register : ℕ → ℕ → (ℕ → ℕ) → ℕ → ℕ
walk_register N p bits j = register (state N p bits j) (bits j)

-- the state made of the k bits before place n, the last one lowest
unfoldable pub made : (ℕ → ℕ) → ℕ → ℕ → ℕ
made bits n zero = 0
made bits zero (suc k) = 0
made bits (suc n) (suc k) = register (made bits n k) (bits n)

-- bit j of a word in a number, which has header bit j at place j from the lowest
abbrev pub bit : ℕ → ℕ → ℕ
bit w j = w / 2 ^ j % 2
