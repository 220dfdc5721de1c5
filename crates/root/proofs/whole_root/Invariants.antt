-- The loop's invariant: the digits still to come, from what is set so far, give the root; and what is set, with all of
-- them, stays within 2^24, so that no square overflows. Assumes nothing.
use Prim.Native.Nat.{◌+◌, ◌-◌, ◌*◌, ◌^◌, ◌≤◌}
use mathlib.Core.Path.{◌≡◌}
use Rattle.root.specs.Root.{digits, whole_root}
use Rattle.root.proofs.whole_root.Given as goal

abbrev pub invariant-loop : goal.invariant-loop
invariant-loop l = (l.counter ≤ 24) × (l.m + 2 * l.w ≤ 2 ^ 24) × (digits (24 - l.counter) l.w l.t l.m ≡ whole_root l.t)
