-- The CRC as document 01 has it, without a layout: what layout 1 gives still.
use Rattle.std.specs.Prelude.{ℕ, not, List, [], ◌∷◌, ltb, length}
use Rattle.util.specs.Refusal.{Cause, Outcome, outcome}
use Rattle.util.specs.Crc.{crc_of}
use Rattle.frame.specs.Format.{named}
use Rattle.frame.specs.Crc.{base_start, some_above_one}

abbrev pub base_causes : ℕ → ℕ → List ℕ → List Cause
base_causes mode kind bits =
    (record { holds = not (named mode kind); number = 1 })
    ∷ (record { holds = ltb 1024 (length bits); number = 4 })
    ∷ (record { holds = some_above_one bits; number = 5 })
    ∷ []

abbrev pub base_answer : ℕ → ℕ → List ℕ → Outcome ℕ
base_answer mode kind bits = outcome (base_causes mode kind bits) (crc_of (base_start mode kind) bits)
