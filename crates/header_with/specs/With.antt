-- Document 02, #111: the header read with labels filled in advance. A lent table that is off the parity rule is refused with 16, after 4;
-- all else is the header read's (crate header).
use Rattle.std.specs.Prelude.{ℕ, Bool, not, ◌&&◌, List, [], ◌∷◌, eqb, Float, length}
use Rattle.util.specs.Refusal.{Cause, Outcome, outcome}
use Rattle.frame.specs.Format.{named}
use Rattle.model.specs.Range.{some_out}
use Rattle.labels.specs.Labels.{labelled}
use Rattle.trellis.specs.Answer.{Answer}
use Rattle.trellis.specs.Terms.{document_search}
use Rattle.header.specs.Read.{Areas, lengths_right}

-- the terms and the areas have the header read's lengths, and the table has an entry for each of the 32,768 registers
abbrev pub six_lengths : ℕ → List Float → List ℕ → Areas → Bool
six_lengths kind terms labels w =
    lengths_right kind (length terms) (length w.scores) (length w.next) (length w.start) (length w.decisions) && eqb (length labels) 32768

abbrev pub causes : ℕ → ℕ → List Float → List ℕ → Areas → List Cause
causes mode kind terms labels w =
    (record { holds = not (named mode kind); number = 1 })
    ∷ (record { holds = not (six_lengths kind terms labels w); number = 4 })
    ∷ (record { holds = not (labelled labels); number = 16 })
    ∷ (record { holds = some_out terms; number = 6 })
    ∷ []

-- the public entry: its answer
abbrev pub header_read_with : ℕ → ℕ → List Float → List ℕ → Areas → Outcome (Answer Float)
header_read_with mode kind terms labels w = outcome (causes mode kind terms labels w) (document_search mode kind terms)
