-- `forms::values` meets its contract: 32 zeros where the symbol is erased, else the metrics that `model` makes. Assumes nothing.
use Prim.Native.Nat.{◌+◌}
use mathlib.Core.Path.{refl, sym, ◌∙◌}
use native.Mathlib.Omega.{arith}
use lib.Ieee.{nan, of_bits}
use lib.ListN.{get_or-replicate}
use Rattle.frame.proofs.Air.{bins-some, bins-most, hop-below}
use Rattle.frame.specs.Format.{format_of}
use Rattle.ieee.specs.Whole.{plus_zero}
use Rattle.forms.proofs.Ways.{value-erased, value-kept}
use Rattle.forms.specs.Inside.{heard}
use Rattle.forms.proofs.values.Goals as goal

pub returns-then-erased : goal.returns-then-erased
unfolding of_bits
returns-then-erased c =
    let a = c.args in (
      refl,
      λ v h. get_or-replicate 32 v plus_zero nan h
          ∙ sym (value-erased (heard a.burst.now) a.i v
          (sym c.erased.ensures ∙ c.if-erased.true)),
    )

pub metrics-requires : goal.metrics-requires
metrics-requires c =
    let a = c.args in
    let bins = c.bins.ensures in
    let some = bins-some a.burst.now.mode in (
      omega arith,
      omega (arith, bins-most a.burst.now.mode),
      omega (arith, c.hop-h.ensures, hop-below (format_of a.burst.now.mode).bins (c.header_symbols.result + a.i) some),
      omega arith,
    )

pub returns : goal.returns
returns c =
    let a = c.args in (
      c.metrics.ensures.0,
      λ v h. c.metrics.ensures.1 v h
          ∙ value-kept (heard a.burst.now) a.i v _ _ _
          (sym c.erased.ensures ∙ c.if-erased.false) c.bins.ensures
          c.hop-h.ensures c.header_symbols.ensures,
    )
