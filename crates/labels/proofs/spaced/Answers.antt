-- `labels::spaced` meets its contract: each place was made by a call at that place. Assumes nothing.
use Rattle.std.proofs.Common.{rules, ◌≡◌, ℕ, ◌*◌}
use Rattle.conv.specs.Label.{label_of}
use Rattle.util.proofs.Made.{made}
use Rattle.labels.proofs.spaced.Goals as goal

pub returns : goal.returns
returns g c = record { at = λ k h. made _ _ (λ (k y : ℕ). y ≡ label_of (k * c.args.gap)) _ (λ k y q l e. search rules) c.from_fn.ensures.items k 0 h }
