-- `burst_file::verdict::last_sixteen` meets its contract. Assumes nothing.
use Prim.Native.Nat.{ℕ, ◌+◌, ◌*◌, ◌^◌, ◌≤◌}
use mathlib.Core.Path.{◌≡◌, refl}
use native.Mathlib.Omega.{arith}
use lib.Pow.{pow-add}
use lib.ListN.{get_or}
use Rattle.wire.specs.Bytes.{high_first}
use Rattle.wire.proofs.Bytes.{digit-more}
use Rattle.burst_file.proofs.verdict.last_sixteen.Goals as goal

small : (k s r : ℕ) → s + 255 ≤ 255 * 2 ^ k → r ≤ 255 → 2 * s + r + 255 ≤ 255 * 2 ^ (k + 1)
small k s r h b = let e : 2 ^ (k + 1) ≡ 2 ^ k * 2 = pow-add 2 k 1 in omega arith

pub loop-k-init : goal.loop-k-init
unfolding high_first
loop-k-init c = (omega arith, refl, omega arith)

pub loop-k-preserved : goal.loop-k-preserved
loop-k-preserved c =
    let a = c.args in (
      omega arith,
      digit-more 2 (λ j. get_or a.bits.now j 0) a.at c.loop-k.k c.loop-k.sum c.from.result c.loop-k.invariant.1 c.from.ensures,
      small c.loop-k.k c.loop-k.sum c.from.result c.loop-k.invariant.2 (omega (arith, c.type_inv.bits (a.at + c.loop-k.k))),
    )
