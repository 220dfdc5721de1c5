-- The loop's invariant: the metrics passed are in their places.
use Prim.Native.Nat.{ℕ, ◌+◌, ◌*◌, ◌≤◌, ◌<◌}
use mathlib.Core.Path.{◌≡◌}
use lib.Bits.{bit_xor}
use lib.Ieee.{nan}
use lib.ListN.{length, get_or}
use Rattle.interleave.proofs.take_symbol.Given as goal

abbrev pub invariant-loop-c : goal.invariant-loop-c
invariant-loop-c l = (l.c ≤ 32) × (length l.x-items ≡ 32)
    × ((v : ℕ) → v < l.c → get_or l.x-items v nan ≡ get_or l.slots (32 * l.s + bit_xor v l.r) nan)
