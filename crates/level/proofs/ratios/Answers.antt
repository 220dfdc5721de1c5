-- `level::ratios` meets its contract: each bin was divided by a call at that bin. Assumes nothing.
use Rattle.std.proofs.Common.{rules, ◌≡◌, ℕ}
use lib.Ieee.{Float, nan}
use Rattle.level.specs.Row.{ratio_of}
use Rattle.util.proofs.Made.{made}
use Rattle.level.proofs.ratios.Goals as goal

pub returns : goal.returns
unfolding ratio_of
returns c =
    let a = c.args in
    let has : ℕ → Float = λ b. ratio_of a.energies.now a.noise.now a.i b in
    (c.from_fn.ensures.items.long, λ b h. made _ _ (λ (k : ℕ) (y : Float). y ≡ has k) _ (λ k y q l e. search rules) c.from_fn.ensures.items b nan h)
