-- In a named layout the causes are document 01's, and layout 1 gives what document 01 gives, in the answer and in every list:
-- at k = 1 the erasure rule is its own. Assumes nothing.
use Prim.Native.Nat.{ℕ, ◌+◌}
use mathlib.Core.Bool.{Bool, true, not}
use mathlib.Core.Path.{◌≡◌, ap, ap₂, fun_ext, ◌∙◌}
use lib.Ieee.{Float, nan, binary32, add}
use lib.ListN.{length, get_or, drop, replicate}
use Rattle.util.specs.Choose.{choose}
use Rattle.util.specs.Refusal.{Outcome, afterwards}
use Rattle.util.proofs.Choose.{without-second}
use Rattle.frame.specs.Format.{format_of, header_bits, named, layout_named}
use Rattle.frame.specs.Air.{hop_of, bin_of, place_of}
use Rattle.ieee.specs.Whole.{plus_zero}
use Rattle.model.specs.Metric.{metric_of}
use Rattle.symbol.specs.Symbol.{erased_of}
use Rattle.symbol.proofs.Erasure.{full-band}
use Rattle.interleave.specs.Interleave.{symbols_of}
use Rattle.forms.specs.Burst.{value_of, metrics_out, soft_out}
use Rattle.soft.specs.Entry.{Asked, soft_answer, values_of}
use Rattle.soft.specs.Base.{base_causes, base_answer, base_values, AsBefore}

module _ (a : Asked) where
  pub answer-named : layout_named a.layout ≡ true → soft_answer a ≡ base_answer a
  answer-named known =
      without-second (record { holds = not (named a.mode a.kind); number = 1 })
      (record { holds = not (layout_named a.layout); number = 12 }) (drop 1 (base_causes a)) tt (ap not known)

  values-base : a.layout ≡ 1 → (i v : ℕ) → values_of a i v ≡ base_values a i v
  unfolding value_of
  values-base one i v =
      let bins = (format_of a.mode).bins in
      let kept = metric_of (add binary32) plus_zero (λ j. get_or a.terms j nan) i (place_of (bin_of bins (hop_of bins (header_bits a.kind + i)) v)) in
      ap (λ (t : Bool). choose t plus_zero kept)
      (ap (λ (k : ℕ). erased_of k a.window (get_or a.counts i 0)) one ∙ full-band a.window (get_or a.counts i 0))

  pub as_before : a.layout ≡ 1 → AsBefore a
  unfolding layout_named
  as_before one =
      let same : soft_answer a ≡ base_answer a = answer-named (ap layout_named one) in
      let values : values_of a ≡ base_values a = fun_ext (λ i. fun_ext (λ v. values-base one i v)) in
      record {
        answer = same;
        work = ap (λ (o : Outcome Unit). afterwards o a.work (replicate (length a.work) plus_zero)) same;
        metrics = ap₂ (λ (o : Outcome Unit) (x : ℕ → ℕ → Float). afterwards o a.metrics (metrics_out a.symbols (symbols_of a.bits) x))
            same values;
        soft = ap₂ (λ (o : Outcome Unit) (x : ℕ → ℕ → Float). afterwards o a.soft (soft_out a.symbols (symbols_of a.bits) a.bits x))
            same values;
      }
