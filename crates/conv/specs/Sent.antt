-- Document 01, 'A header sent': the public entry with its refusals, and what it leaves in the lent list.
use Rattle.std.specs.Prelude.{ℕ, not, ◌&&◌, List, [], ◌∷◌, eqb, length, get_or, replicate}
use Rattle.util.specs.Refusal.{Cause, Outcome, outcome, afterwards}
use Rattle.frame.specs.Format.{named, header_bits}
use Rattle.frame.specs.Air.{placed}
use Rattle.frame.specs.Crc.{some_above_one}
use Rattle.conv.specs.Label.{label_of}
use Rattle.conv.specs.Encoder.{walk_register, made}

-- the bits of a list of bytes, by their place
abbrev pub bits_of : List ℕ → ℕ → ℕ
bits_of bytes j = get_or bytes j 0

-- the label of step j of n header bits: the register starts with the last 14 of them
unfoldable pub step_label : (ℕ → ℕ) → ℕ → ℕ → ℕ
step_label bits n j = label_of (walk_register 16384 (made bits n 14) bits j)

-- the labels of n header bits in slot order: step j's goes to slot (a·j) mod n (every slot is written exactly once:
-- proofs/Slots.antt)
unfoldable pub labels : ℕ → (ℕ → ℕ) → List ℕ
labels n bits = placed n (step_label bits n) n (replicate n 0)

-- bits or values not n long: 48, 64, 48 by kind
abbrev pub causes : ℕ → ℕ → List ℕ → ℕ → List Cause
causes mode kind bits room =
    (record { holds = not (named mode kind); number = 1 })
    ∷ (record { holds = not (eqb (length bits) (header_bits kind) && eqb room (header_bits kind)); number = 4 })
    ∷ (record { holds = some_above_one bits; number = 5 })
    ∷ []

-- the public entry: its answer
abbrev pub sent_answer : ℕ → ℕ → List ℕ → ℕ → Outcome Unit
sent_answer mode kind bits room = outcome (causes mode kind bits room) tt

-- the public entry: the values lent
abbrev pub sent_values : ℕ → ℕ → List ℕ → List ℕ → List ℕ
sent_values mode kind bits values =
    afterwards (sent_answer mode kind bits (length values)) values (labels (header_bits kind) (bits_of bits))
