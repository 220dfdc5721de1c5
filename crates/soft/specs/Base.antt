-- Soft values as document 01 has them, without a layout: what layout 1 gives still.
use Rattle.std.specs.Prelude.{ℕ, ◌+◌, ◌*◌, not, List, [], ◌∷◌, ◌≡◌, ltb, length, get_or, replicate, Float}
use Rattle.std.specs.Float.{nan, binary32}
use Rattle.std.specs.Float.Ieee.{add}
use Rattle.util.specs.Choose.{choose}
use Rattle.util.specs.Some.{some_of}
use Rattle.util.specs.Refusal.{Cause, Outcome, outcome, afterwards}
use Rattle.frame.specs.Format.{format_of, header_bits, named, listed}
use Rattle.frame.specs.Air.{hop_of, bin_of, place_of}
use Rattle.ieee.specs.Whole.{plus_zero}
use Rattle.model.specs.Metric.{metric_of}
use Rattle.model.specs.Range.{some_out}
use Rattle.interleave.specs.Interleave.{symbols_of}
use Rattle.forms.specs.Burst.{metrics_out, soft_out}
use Rattle.soft.specs.Entry.{Asked, count_out, sized, soft_answer, metrics_after, soft_after, work_after}

abbrev pub base_causes : Asked → List Cause
base_causes a =
    (record { holds = not (named a.mode a.kind); number = 1 })
    ∷ (record { holds = ltb 10240 a.bits; number = 2 })
    ∷ (record { holds = not (listed a.window (format_of a.mode).windows); number = 3 })
    ∷ (record { holds = not (sized a); number = 4 })
    ∷ (record { holds = some_out a.terms; number = 6 })
    ∷ (record { holds = some_of (count_out a.window) a.counts; number = 7 })
    ∷ []

abbrev pub base_answer : Asked → Outcome Unit
base_answer a = outcome (base_causes a) tt

-- a symbol is erased exactly when 2·blanked > 7·window: all 32 values count 0.0
abbrev pub base_values : Asked → ℕ → ℕ → Float
base_values a i v =
    let bins = (format_of a.mode).bins in
    choose (ltb (7 * a.window) (2 * get_or a.counts i 0)) plus_zero
    (metric_of (add binary32) plus_zero (λ j. get_or a.terms j nan) i (place_of (bin_of bins (hop_of bins (header_bits a.kind + i)) v)))

-- the answer and the three lent lists are document 01's
pub record AsBefore (a : Asked) : Type 0 where
  pub answer : soft_answer a ≡ base_answer a
  pub work : work_after a ≡ afterwards (base_answer a) a.work (replicate (length a.work) plus_zero)
  pub metrics : metrics_after a ≡ afterwards (base_answer a) a.metrics (metrics_out a.symbols (symbols_of a.bits) (base_values a))
  pub soft : soft_after a ≡ afterwards (base_answer a) a.soft (soft_out a.symbols (symbols_of a.bits) a.bits (base_values a))
