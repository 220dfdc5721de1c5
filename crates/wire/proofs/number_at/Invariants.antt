-- The loop's invariant: the sum is that of the bytes passed, which hold no more.
use Prim.Native.Nat.{◌^◌, ◌<◌}
use mathlib.Core.Path.{◌≡◌}
use Rattle.wire.specs.Bytes.{number_at}
use Rattle.wire.proofs.number_at.Given as goal

abbrev pub invariant-loop-byte : goal.invariant-loop-byte
invariant-loop-byte l = (l.sum ≡ number_at l.bytes l.at l.byte-index) × (l.sum < 256 ^ l.byte-index)
