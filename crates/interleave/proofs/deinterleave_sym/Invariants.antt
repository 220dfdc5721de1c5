-- The loop's invariant: the symbols passed are back in their places. The measure is what is left of them. Assumes
-- nothing.
use Prim.Native.Nat.{ℕ, ◌+◌, ◌-◌, ◌*◌, ◌≤◌, ◌<◌}
use mathlib.Core.Path.{◌≡◌}
use lib.Ieee.{nan}
use lib.ListN.{length, get_or}
use Rattle.interleave.specs.Interleave.{sym_back}
use Rattle.util.specs.Table.{rows}
use Rattle.interleave.proofs.deinterleave_sym.Given as goal

abbrev pub invariant-loop-p : goal.invariant-loop-p
invariant-loop-p l = (l.p ≤ l.n) × (length l.out ≡ length l.initial.out)
    × ((k : ℕ) → k < 32 * l.p → get_or l.out k nan ≡ rows 32 (sym_back l.n (λ s v. get_or l.slots (32 * s + v) nan)) k)

abbrev pub decreases-loop-p : goal.decreases-loop-p
decreases-loop-p l = l.n - l.p
