-- The loop's invariant: the bits passed are back in their places. Assumes nothing.
use Prim.Native.Nat.{ℕ, ◌≤◌, ◌<◌}
use mathlib.Core.Path.{◌≡◌}
use lib.Ieee.{nan}
use lib.ListN.{length, get_or}
use Rattle.interleave.specs.Interleave.{bit_back}
use Rattle.interleave.proofs.deinterleave.Given as goal

abbrev pub invariant-loop-p : goal.invariant-loop-p
invariant-loop-p l = (l.p ≤ length l.initial.out) × (length l.out ≡ length l.initial.out)
    × ((k : ℕ) → k < l.p → get_or l.out k nan ≡ bit_back l.n (λ s. get_or l.slots s nan) k)
