-- `forms::symbol_form` meets its contract, by those of its calls. Assumes nothing.
use Prim.Native.Nat.{ℕ}
use mathlib.Core.Bool.{false}
use mathlib.Core.Path.{sym, ap, ◌∙◌}
use lib.ListN.{length, replicate}
use Rattle.ieee.specs.Whole.{plus_zero}
use Rattle.forms.proofs.Forms.{metrics-long, metrics-made, soft-made}
use Rattle.forms.specs.Inside.{heard}
use Rattle.forms.specs.Burst.{value_of}
use Rattle.forms.proofs.symbol_form.Goals as goal

pub returns : goal.returns
returns c =
    let a = c.args in
    let n = length a.burst.now.blanked.now in
    let b = length a.soft.now in
    let own = value_of (heard a.burst.now) in
    let metrics = metrics-made n b own _ _ c.all_metrics.ensures c.deinterleave_sym.ensures in (
      c.clear.ensures
          ∙ ap (λ (k : ℕ). replicate k plus_zero) (ap length c.all_metrics.ensures ∙ metrics-long n b own false ∙ sym c.requires.work),
      record {
        all = metrics;
        cut = soft-made n b own _ _ c.requires.enough metrics c.plain_bits.ensures;
      },
    )
