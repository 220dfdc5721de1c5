-- Document 01, 'Metrics and soft bits': the metrics and soft bits of a burst, in a layout of document 02.
use Rattle.std.specs.Prelude.{ℕ, ◌+◌, ◌*◌, ◌-◌, Bool, true, false, List, get_or, Float}
use Rattle.std.specs.Float.{nan, binary32}
use Rattle.std.specs.Float.Ieee.{add}
use Rattle.util.specs.Choose.{choose}
use Rattle.util.specs.Table.{tabled, rows}
use Rattle.frame.specs.Format.{format_of, header_bits}
use Rattle.frame.specs.Air.{hop_of, bin_of, place_of}
use Rattle.interleave.specs.Interleave.{bit_back, sym_back}
use Rattle.ieee.specs.Whole.{plus_zero}
use Rattle.model.specs.Metric.{metric_of}
use Rattle.symbol.specs.Symbol.{erased_of, metric_out, soft_bit}

-- what was received of a burst: terms, and a blanked count for each symbol
pub record Received : Type 0 where
  pub mode : ℕ
  pub kind : ℕ
  pub layout : ℕ
  pub window : ℕ
  pub terms : ℕ → Float
  pub counts : ℕ → ℕ

abbrev pub received : ℕ → ℕ → ℕ → ℕ → List Float → List ℕ → Received
received mode kind layout window terms counts =
    record { mode = mode; kind = kind; layout = layout; window = window; terms = λ i. get_or terms i nan; counts = λ i. get_or counts i 0 }

-- data symbol i has hop(header symbols + i); erased, all 32 values count 0.0
unfoldable pub value_of : Received → ℕ → ℕ → Float
value_of r i v =
    let bins = (format_of r.mode).bins in
    choose (erased_of r.layout r.window (r.counts i)) plus_zero
    (metric_of (add binary32) plus_zero r.terms i (place_of (bin_of bins (hop_of bins (header_bits r.kind + i)) v)))

-- metric v of symbol i: bit form in slot order, symbol form through `deinterleave_sym`
unfoldable pub metric_at : Bool → ℕ → (ℕ → ℕ → Float) → ℕ → ℕ → Float
metric_at false n values = λ i. metric_out (values i)
metric_at true n values = sym_back n (λ i. metric_out (values i))

-- soft bit p. Bit form: bit k of gray(v), k = 0 to 4, over the values, then `deinterleave`. Symbol form: plain bits of v, k = 4 to 0, over the metrics.
unfoldable pub soft_at : Bool → ℕ → (ℕ → ℕ → Float) → ℕ → Float
soft_at false n values = bit_back (5 * n) (rows 5 (λ i k. soft_bit true k (values i)))
soft_at true n values = rows 5 (λ i k. soft_bit false (4 - k) (metric_at true n values i))

-- per symbol 32 metrics, per bit one soft bit
unfoldable pub metrics_out : Bool → ℕ → (ℕ → ℕ → Float) → List Float
metrics_out symbols n values = tabled (32 * n) (rows 32 (metric_at symbols n values))

unfoldable pub soft_out : Bool → ℕ → ℕ → (ℕ → ℕ → Float) → List Float
soft_out symbols n bits values = tabled bits (soft_at symbols n values)
