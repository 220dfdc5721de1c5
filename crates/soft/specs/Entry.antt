-- Document 01, 'Metrics and soft bits' and 'When nothing is done', and document 02, #102: the public entry with its
-- refusals, and what it leaves in each lent list.
use Rattle.std.specs.Prelude.{ℕ, ◌*◌, Bool, not, ◌&&◌, List, [], ◌∷◌, eqb, ltb, length, replicate, Float}
use Rattle.util.specs.Some.{some_of}
use Rattle.util.specs.Refusal.{Cause, Outcome, outcome, afterwards}
use Rattle.frame.specs.Format.{format_of, named, layout_named, listed}
use Rattle.ieee.specs.Whole.{plus_zero}
use Rattle.model.specs.Range.{some_out}
use Rattle.interleave.specs.Interleave.{symbols_of}
use Rattle.forms.specs.Burst.{received, value_of, metrics_out, soft_out}

-- what the entry is asked, the lent lists as they are at entry
pub record Asked : Type 0 where
  pub mode : ℕ
  pub kind : ℕ
  pub layout : ℕ
  pub symbols : Bool
  pub window : ℕ
  pub bits : ℕ
  pub terms : List Float
  pub counts : List ℕ
  pub work : List Float
  pub metrics : List Float
  pub soft : List Float

abbrev pub asked : ℕ → ℕ → ℕ → Bool → ℕ → ℕ → List Float → List ℕ → List Float → List Float → List Float → Asked
asked mode kind layout symbols window bits terms counts work metrics soft =
    record {
      mode = mode;
      kind = kind;
      layout = layout;
      symbols = symbols;
      window = window;
      bits = bits;
      terms = terms;
      counts = counts;
      work = work;
      metrics = metrics;
      soft = soft;
    }

-- a blanked count above 255·window
unfoldable pub count_out : ℕ → ℕ → Bool
count_out window count = ltb (255 * window) count

-- n symbols: per symbol 260 terms, one count, 32 of the work area and 32 metrics out, per bit one soft bit
unfoldable pub sizes : ℕ → ℕ → ℕ → ℕ → ℕ → ℕ → ℕ → Bool
sizes n bits terms counts work metrics soft =
    eqb terms (260 * n) && (eqb counts n && (eqb work (32 * n) && (eqb metrics (32 * n) && eqb soft bits)))

abbrev pub sized : Asked → Bool
sized a = sizes (symbols_of a.bits) a.bits (length a.terms) (length a.counts) (length a.work) (length a.metrics) (length a.soft)

abbrev pub causes : Asked → List Cause
causes a =
    (record { holds = not (named a.mode a.kind); number = 1 })
    ∷ (record { holds = not (layout_named a.layout); number = 12 })
    ∷ (record { holds = ltb 10240 a.bits; number = 2 })
    ∷ (record { holds = not (listed a.window (format_of a.mode).windows); number = 3 })
    ∷ (record { holds = not (sized a); number = 4 })
    ∷ (record { holds = some_out a.terms; number = 6 })
    ∷ (record { holds = some_of (count_out a.window) a.counts; number = 7 })
    ∷ []

-- the public entry: its answer
abbrev pub soft_answer : Asked → Outcome Unit
soft_answer a = outcome (causes a) tt

-- the values of what was received
abbrev pub values_of : Asked → ℕ → ℕ → Float
values_of a = value_of (received a.mode a.kind a.layout a.window a.terms a.counts)

-- the public entry: the lent lists. The work area ends as zeros.
abbrev pub metrics_after : Asked → List Float
metrics_after a = afterwards (soft_answer a) a.metrics (metrics_out a.symbols (symbols_of a.bits) (values_of a))

abbrev pub soft_after : Asked → List Float
soft_after a = afterwards (soft_answer a) a.soft (soft_out a.symbols (symbols_of a.bits) a.bits (values_of a))

abbrev pub work_after : Asked → List Float
work_after a = afterwards (soft_answer a) a.work (replicate (length a.work) plus_zero)
