-- `forward::eight` meets its contract: each place was made by a call at that place. Assumes nothing.
use Rattle.std.proofs.Common.{rules, ◌≡◌, ℕ, ◌+◌, ◌/◌}
use lib.Bits.{bit_and}
use lib.Dec.{eqb}
use lib.ListN.{get_or}
use Rattle.util.specs.Choose.{choose}
use Rattle.util.proofs.Made.{made}
use Rattle.forward.proofs.eight.Goals as goal

pub returns : goal.returns
returns c =
    let a = c.args in
    let has : ℕ → ℕ = λ k. choose (eqb (bit_and a.piece (get_or a.masks.now k 0)) 0) (get_or a.from.now (a.x + k / 2) 0) (get_or a.from.now (a.x + 8192 + k / 2) 0) in
    record { at = λ k h. made _ _ (λ (k y : ℕ). y ≡ has k) _ (λ k y q l e. search rules) c.from_fn.ensures.items k 0 h }
