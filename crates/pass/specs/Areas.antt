-- How the lent areas hold what document 01's search speaks of (crate trellis): tables of scores, packed decisions, metrics of the steps.
use Rattle.std.specs.Prelude.{ℕ, ◌+◌, ◌*◌, ◌-◌, ◌/◌, ◌%◌, ◌^◌, ◌<◌, ◌≤◌, Bool, List, ◌≡◌, eqb, Float, length, get_or}
use Rattle.std.specs.Float.{nan, binary32}
use Rattle.std.specs.Float.Ieee.{sub}
use Rattle.conv.specs.Label.{label_of}
use Rattle.trellis.specs.Scale.{highest}
use Rattle.trellis.specs.Numbers.{single}
use Rattle.trellis.specs.Trellis.{Trellis}
use Rattle.trellis.specs.Search.{upper, step, decision}
use Rattle.trellis.specs.Search as Search

-- the table that an area holds (past the end a slice of f32 reads as nan)
abbrev pub table : List Float → ℕ → Float
table area s = get_or area s nan

-- 32 metrics a step: how many steps there are, and the trellis in which a register earns the metric of its label
abbrev pub steps_in : List Float → ℕ
steps_in metrics = length metrics / 32

abbrev pub over : List Float → Trellis Float
over metrics = record { scale = single; states = 16384; steps = steps_in metrics; earn = λ j r. table metrics (j * 32 + label_of r) }

-- bit i of a word is set
abbrev pub flag : ℕ → ℕ → Bool
flag word i = eqb (word / 2 ^ i % 2) 1

-- the decision of step j for state s, as the code packs them: bit s % 64 of word s / 64, 256 words a step
abbrev pub packed : List ℕ → ℕ → ℕ → Bool
packed area j s = flag (get_or area (j * 256 + s / 64) 0) (s % 64)

-- an area of 16,384 scores holds the table f
pub record Holds (area : List Float) (f : ℕ → Float) : Type 0 where
  pub size : length area ≡ 16384
  pub at : (s : ℕ) → s < 16384 → table area s ≡ f s

-- the first j steps' decisions stand in an area
pub record Decides (area : List ℕ) (j : ℕ) (d : ℕ → ℕ → Bool) : Type 0 where
  pub at : (i : ℕ) → i < j → (s : ℕ) → s < 16384 → packed area i s ≡ d i s

-- 32 metrics for each of at most 64 steps, and of these an even number, two at least: so the turns that two areas take end in the one that
-- the end scores belong in
pub record Metrics (metrics : List Float) : Type 0 where
  pub whole : length metrics ≡ steps_in metrics * 32
  pub few : steps_in metrics ≤ 64
  pub some : 0 < steps_in metrics
  pub even : steps_in metrics % 2 ≡ 0

-- word w of step j from the scores `from` is done: its 64 scores and decisions; the scores below are as they were
pub record Word (metrics from : List Float) (j w : ℕ) (before after : List Float) (word : ℕ) : Type 0 where
  pub size : length after ≡ 16384
  pub done : (s : ℕ) → w * 64 ≤ s → s < w * 64 + 64 → table after s ≡ step (over metrics) (table from) j s
  pub below : (s : ℕ) → s < w * 64 → table after s ≡ table before s
  pub flags : (i : ℕ) → i < 64 → flag word i ≡ upper (over metrics) (table from) j (w * 64 + i)

-- step j from the scores `from` is done: all scores and decisions; the decisions of earlier steps are as they were
pub record Stepped (metrics from : List Float) (j : ℕ) (after : List Float) (old new : List ℕ) : Type 0 where
  pub size : length after ≡ 16384
  pub room : length new ≡ length old
  pub done : (s : ℕ) → s < 16384 → table after s ≡ step (over metrics) (table from) j s
  pub flags : (s : ℕ) → s < 16384 → packed new j s ≡ upper (over metrics) (table from) j s
  pub earlier : (i : ℕ) → i < j * 256 → get_or new i 0 ≡ get_or old i 0

-- after j steps of a pass from the table f: the scores and the decisions
pub record Ran (metrics : List Float) (f : ℕ → Float) (j : ℕ) (scores : List Float) (decisions : List ℕ) : Type 0 where
  pub held : Holds scores (Search.scores (over metrics) f j)
  pub decided : Decides decisions j (decision (over metrics) f)

-- after j steps of a pass, one at least, in which two areas took turns as source and target (document 02, #104): the scores and the
-- decisions as above, and the other area still holds the scores that the last step started from. A copy back would leave both alike
pub record Turned (metrics : List Float) (f : ℕ → Float) (j : ℕ) (scores other : List Float) (decisions : List ℕ) : Type 0 where
  pub ran : Ran metrics f j scores decisions
  pub source : Holds other (Search.scores (over metrics) f (j - 1))
  pub room : length decisions ≡ steps_in metrics * 256

-- the gain of state s between two areas of scores, the end's less the start's, and the greatest of all gains
abbrev pub gain_in : List Float → List Float → ℕ → Float
gain_in scores start s = sub binary32 (table scores s) (table start s)

abbrev pub top_in : List Float → List Float → Float
top_in scores start = gain_in scores start (highest single (gain_in scores start) 16384)
