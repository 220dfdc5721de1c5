-- `forms::bit_form` meets its contract, by those of its calls. Assumes nothing.
use Prim.Native.Nat.{ℕ}
use mathlib.Core.Path.{ap, ◌∙◌}
use lib.ListN.{length, replicate}
use Rattle.ieee.specs.Whole.{plus_zero}
use Rattle.forms.proofs.Forms.{bits-made}
use Rattle.forms.specs.Inside.{heard}
use Rattle.forms.specs.Burst.{value_of}
use Rattle.forms.proofs.bit_form.Goals as goal

pub returns : goal.returns
returns c =
    let a = c.args in (
      c.clear.ensures ∙ ap (λ (n : ℕ). replicate n plus_zero) c.all_bits.ensures.0,
      record {
        all = c.all_metrics.ensures;
        cut = bits-made (length a.burst.now.blanked.now) (length a.soft.now)
            (value_of (heard a.burst.now))
            c.all_bits.new.slots _ c.requires.enough
            c.all_bits.ensures.1 c.deinterleave.ensures;
      },
    )
