-- `symbol::put_metrics` meets its contract: each metric was made by a call at its value, and the row is copied over its places.
-- Assumes nothing.
use Rattle.std.proofs.Common.{rules, ◌≡◌, ℕ, ◌*◌, arith, ◌<◌}
use lib.Ieee.{Float, nan, of_bits, neg}
use lib.ListN.{get_or}
use Rattle.lse.specs.Lse.{float32, negative}
use Rattle.symbol.specs.Symbol.{metric_out}
use Rattle.util.proofs.Copied.{copied}
use Rattle.util.proofs.Made.{made}
use Rattle.symbol.proofs.put_metrics.Goals as goal

pub returns : goal.returns
unfolding metric_out negative float32 of_bits neg
returns c =
    let a = c.args in
    let has : ℕ → Float = metric_out (λ v. get_or a.values.now v nan) in
    let each : (v : ℕ) → v < 32 → get_or c.from_fn-row.result v nan ≡ has v = λ v h. made _ _ (λ (k : ℕ) (y : Float). y ≡ has k) _ (λ k y q l e. search (rules, c.greatest-most.ensures)) c.from_fn-row.ensures.items v nan h in
    let long = c.from_fn-row.ensures.items.long in
    copied nan 32 (32 * a.i) has _ c.from_fn-row.result c.copy_from_slice.new.self a.out.now (omega arith) c.copy_from_slice.ensures.after long (omega arith) each
