-- Document 01, 'A header read': from terms to what a register earns, and the search over them.
use Rattle.std.specs.Prelude.{ℕ, ◌+◌, ◌^◌, ◌≤◌, ◌<◌, List, length, get_or, ℤ, nat_abs, Float}
use Rattle.std.specs.Float.{nan}
use Rattle.ieee.specs.Whole.{Whole}
use Rattle.ieee.specs.Units.{Units}
use Rattle.frame.specs.Format.{format_of, header_bits}
use Rattle.frame.specs.Air.{hop_of, bin_of, place_of, slot_of}
use Rattle.conv.specs.Label.{label_of}
use Rattle.model.specs.Metric.{metric_of}
use Rattle.trellis.specs.Scale.{Scale}
use Rattle.trellis.specs.Trellis.{Trellis}
use Rattle.trellis.specs.Search.{search, ceiling}
use Rattle.trellis.specs.Answer.{Answer, answer_of}
use Rattle.trellis.specs.Numbers.{single}

-- header symbol s has hop(s); the place of value v's bin
abbrev pub place_in : ℕ → ℕ → ℕ → ℕ
place_in bins symbol v = place_of (bin_of bins (hop_of bins symbol) v)

-- value v's metric in a symbol: the sum of five terms around the place of its bin (`metric_of` of crate model)
abbrev pub metric : {A : Type 0} → Scale A → ℕ → (ℕ → A) → ℕ → ℕ → A
metric S bins terms symbol v = metric_of S.add S.nil terms symbol (place_in bins symbol v)

-- step j takes the 32 metrics of its slot: a register earns there the metric of its label
abbrev pub header : {A : Type 0} → Scale A → ℕ → ℕ → (ℕ → A) → Trellis A
header S mode kind terms =
    record {
      scale = S;
      states = 16384;
      steps = header_bits kind;
      earn = λ j r. metric S (format_of mode).bins terms (slot_of (header_bits kind) j) (label_of r);
    }

-- the terms as they are lent
abbrev pub lent : List Float → ℕ → Float
lent terms i = get_or terms i nan

-- the answer of document 01's search, with its ceiling, and by this its outcome
abbrev pub document_search : ℕ → ℕ → List Float → Answer Float
document_search mode kind terms = answer_of single (search (header single mode kind (lent terms))) (ceiling (header single mode kind (lent terms)))

-- the terms are the whole numbers ints, each from -b to b
pub record WholeTerms (b : ℕ) (terms : List Float) (ints : ℕ → ℤ) : Type 0 where
  pub whole : (i : ℕ) → i < length terms → Whole (lent terms i) (ints i)
  pub small : (i : ℕ) → i < length terms → nat_abs (ints i) ≤ b

-- the terms are, exactly, ints in units of 2^-149 (of which every f32 is a whole number), each from -2^a to 2^a
pub record UnitTerms (a : ℕ) (terms : List Float) (ints : ℕ → ℤ) : Type 0 where
  pub units : (i : ℕ) → i < length terms → Units 149 (lent terms i) (ints i)
  pub small : (i : ℕ) → i < length terms → nat_abs (ints i) ≤ 2 ^ (a + 149)
