-- Document 02, #108: the public entry with its refusals, and what it leaves in the lent list.
use Rattle.std.specs.Prelude.{ℕ, ◌*◌, ◌<◌, Bool, false, not, ◌&&◌, ◌||◌, List, [], ◌∷◌, ◌≡◌, T, eqb, ltb, pos, negsuc, length, get_or, Float}
use Rattle.std.specs.Float.{fin, nan}
use Rattle.std.specs.Float.Ieee.{le}
use Rattle.std.specs.Float.Ieee.Scale.{finite}
use Rattle.util.specs.Some.{some_of}
use Rattle.util.specs.Refusal.{Cause, Outcome, accepted, outcome, afterwards}
use Rattle.frame.specs.Format.{named}
use Rattle.ieee.specs.Whole.{plus_zero}
use Rattle.level.specs.Level.{one}
use Rattle.noise.specs.Local.{Burst, burst, empty_mean, factors_of}

-- what the entry is asked
pub record Asked : Type 0 where
  pub heard : Burst
  pub eps : Float
  pub r : Float

abbrev pub asked : ℕ → ℕ → ℕ → List Float → List Float → Float → Float → Asked
asked mode kind rows energies noise eps r = record { heard = burst mode kind rows energies noise; eps = eps; r = r }

-- 10^9 = 1,953,125 · 2^9, 2^-20, 1/2 and 1,000 = 125 · 2^3
abbrev pub billion : Float
billion = fin false 1953125 (pos 9)

abbrev pub least_noise : Float
least_noise = fin false 1 (negsuc 19)

abbrev pub half : Float
half = fin false 1 (negsuc 0)

abbrev pub thousand : Float
thousand = fin false 125 (pos 3)

-- not from lo to hi; a NaN is out of any range, and -0.0 is 0
abbrev pub outside : Float → Float → Float → Bool
outside lo hi x = not (le lo x && le x hi)

-- per row 52 energies and as many factors, and the noise of 52 bins
unfoldable pub sizes : ℕ → ℕ → ℕ → ℕ → Bool
sizes rows energies noise factors = eqb energies (52 * rows) && (eqb noise 52 && eqb factors (52 * rows))

-- a row count above 2,048, eps, r, or any of the 52 values of the noise or of a row out of its range, read or not
unfoldable pub out_of_range : ℕ → Float → Float → List Float → List Float → Bool
out_of_range rows eps r noise energies =
    ltb 2048 rows
    || (outside plus_zero half eps
    || (outside one thousand r || (some_of (outside least_noise billion) noise || some_of (outside plus_zero billion) energies)))

-- with a list of that many factors lent
abbrev pub causes : Asked → ℕ → List Cause
causes a lent =
    let h = a.heard in
    (record { holds = not (named h.mode h.kind); number = 1 })
    ∷ (record { holds = not (sizes h.rows (length h.energies) (length h.noise) lent); number = 4 })
    ∷ (record { holds = out_of_range h.rows a.eps a.r h.noise h.energies; number = 15 })
    ∷ []

-- the public entry: its answer, and the lent list
abbrev pub noise_answer : Asked → ℕ → Outcome Unit
noise_answer a lent = outcome (causes a lent) tt

abbrev pub factors_after : Asked → List Float → List Float
factors_after a was = afterwards (noise_answer a (length was)) was (factors_of a.heard (empty_mean a.eps a.r))

-- an answer's factors are finite and at least 1
pub record AtLeastOne (answer : Outcome Unit) (factors : List Float) : Type 0 where
  pub each : answer ≡ accepted tt → (k : ℕ) → k < length factors → T (finite (get_or factors k nan)) × T (le one (get_or factors k nan))
