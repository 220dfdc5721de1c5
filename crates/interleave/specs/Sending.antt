-- Document 02, #101: the sending halves of both interleavers, each a public entry with its refusals.
use Rattle.std.specs.Prelude.{ℕ, ◌+◌, ◌*◌, ◌%◌, not, List, [], ◌∷◌, eqb, ltb, length, get_or, replicate}
use Rattle.std.specs.Int.Bits.{bit_xor}
use Rattle.util.specs.Refusal.{Cause, Outcome, outcome, afterwards}
use Rattle.frame.specs.Air.{placed}
use Rattle.frame.specs.Crc.{some_above}
use Rattle.interleave.specs.Interleave.{symbols_of, scramble_of, sym_scramble_of}

-- n, the slots of so many bits: five times the symbols
abbrev pub slots_for : ℕ → ℕ
slots_for bits = 5 * symbols_of bits

-- bit p with its scramble bit added modulo 2, and symbol p as value xor its five-bit scramble
abbrev pub scrambled_bit : List ℕ → ℕ → ℕ
scrambled_bit bits p = (get_or bits p 0 + scramble_of p) % 2

abbrev pub scrambled_symbol : List ℕ → ℕ → ℕ
scrambled_symbol symbols p = bit_xor (get_or symbols p 0) (sym_scramble_of p)

-- each bit goes to slot (a·p) mod n; slots that no bit reaches carry 0
unfoldable pub sent_bits : List ℕ → List ℕ
sent_bits bits = placed (slots_for (length bits)) (scrambled_bit bits) (length bits) (replicate (slots_for (length bits)) 0)

-- each of n symbols goes to slot (a·p) mod n, so that no slot is left
unfoldable pub sent_symbols : List ℕ → List ℕ
sent_symbols symbols = placed (length symbols) (scrambled_symbol symbols) (length symbols) (replicate (length symbols) 0)

-- more than 10,240 bits; slots not n long; a byte above 1
abbrev pub bit_causes : List ℕ → ℕ → List Cause
bit_causes bits room =
    (record { holds = ltb 10240 (length bits); number = 2 })
    ∷ (record { holds = not (eqb room (slots_for (length bits))); number = 4 })
    ∷ (record { holds = some_above 1 bits; number = 5 })
    ∷ []

-- the public entry for bits: its answer, and the slots lent
abbrev pub bits_answer : List ℕ → ℕ → Outcome Unit
bits_answer bits room = outcome (bit_causes bits room) tt

abbrev pub slots_after : List ℕ → List ℕ → List ℕ
slots_after bits slots = afterwards (bits_answer bits (length slots)) slots (sent_bits bits)

-- more than 2,048 symbols; values not as many; a value above 31
abbrev pub symbol_causes : List ℕ → ℕ → List Cause
symbol_causes symbols room =
    (record { holds = ltb 2048 (length symbols); number = 2 })
    ∷ (record { holds = not (eqb room (length symbols)); number = 4 })
    ∷ (record { holds = some_above 31 symbols; number = 11 })
    ∷ []

-- the public entry for symbols: its answer, and the values lent
abbrev pub symbols_answer : List ℕ → ℕ → Outcome Unit
symbols_answer symbols room = outcome (symbol_causes symbols room) tt

abbrev pub values_after : List ℕ → List ℕ → List ℕ
values_after symbols values = afterwards (symbols_answer symbols (length values)) values (sent_symbols symbols)
