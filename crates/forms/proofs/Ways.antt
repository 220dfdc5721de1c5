-- The values of a symbol on each way of the code: erased, or kept. Assumes nothing.
use Prim.Native.Nat.{ℕ, ◌+◌}
use mathlib.Core.Bool.{true, false}
use mathlib.Core.Path.{◌≡◌}
use lib.Ieee.{binary32, add}
use Rattle.frame.specs.Format.{format_of, header_bits}
use Rattle.frame.specs.Air.{hop_of, bin_of, place_of}
use Rattle.ieee.specs.Whole.{plus_zero}
use Rattle.model.specs.Metric.{metric_of}
use Rattle.symbol.specs.Symbol.{erased_of}
use Rattle.forms.specs.Burst.{Received, value_of}

module _ (r : Received) (i v : ℕ) where
  pub value-erased : erased_of r.layout r.window (r.counts i) ≡ true → value_of r i v ≡ plus_zero
  unfolding value_of
  value-erased e = rw e

  pub value-kept : (bins hop head : ℕ) → erased_of r.layout r.window (r.counts i) ≡ false → bins ≡ (format_of r.mode).bins
      → hop ≡ hop_of (format_of r.mode).bins (head + i) → head ≡ header_bits r.kind
      → metric_of (add binary32) plus_zero r.terms i (place_of (bin_of bins hop v)) ≡ value_of r i v
  unfolding value_of
  value-kept bins hop head e p q s = rw (e, p, q, s)
