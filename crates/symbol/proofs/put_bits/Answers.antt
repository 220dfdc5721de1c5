-- `symbol::put_bits` meets its contract: each soft bit was made by a call at its bit, and the row is copied over its places.
-- Assumes nothing.
use Rattle.std.proofs.Common.{rules, ◌≡◌, ℕ, ◌+◌, ◌*◌, ◌∙◌, ap, arith, true, ◌<◌}
use native.Mathlib.Nat.{zero-add}
use lib.Ieee.{Float, nan}
use lib.ListN.{get_or}
use Rattle.util.proofs.Copied.{copied}
use Rattle.symbol.proofs.Same.{soft-same}
use Rattle.symbol.proofs.Sums.{soft-of}
use Rattle.symbol.specs.Symbol.{soft_bit}
use Rattle.symbol.specs.Sums.{soft_from}
use Rattle.util.proofs.Made.{made}
use Rattle.symbol.proofs.put_bits.Goals as goal

pub returns : goal.returns
returns c =
    let a = c.args in
    let x : ℕ → Float = λ v. get_or a.values.now v nan in
    let from : ℕ → Float = λ v. get_or a.values.now (0 + v) nan in
    let sums = c.log_sums-sums in
    let has : (k : ℕ) → k < 5 → soft_from sums.result k ≡ soft_bit true k x =
    λ k h. soft-of true from _ k h sums.ensures ∙ soft-same from x (λ v h. ap x (zero-add v)) true k in
    let row = c.from_fn-row in
    let each : (v : ℕ) → v < 5 → get_or row.result v nan ≡ soft_bit true v x = λ v h. made _ _ (λ (k : ℕ) (y : Float). y ≡ soft_from sums.result k) _ (λ k y q l e. search rules) row.ensures.items v nan h ∙ has v h in
    copied nan 5 (5 * a.i) (λ k. soft_bit true k x) _ row.result c.copy_from_slice.new.self a.slots.now (omega arith) c.copy_from_slice.ensures.after row.ensures.items.long (omega arith) each
