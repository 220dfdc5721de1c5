-- The loop's invariant: the state is made of the bits passed, from the 14th before the end on. Assumes nothing.
use Prim.Native.Nat.{◌+◌, ◌-◌, ◌≤◌}
use mathlib.Core.Path.{◌≡◌}
use lib.ListN.{length}
use Rattle.conv.specs.Encoder.{made}
use Rattle.conv.specs.Sent.{bits_of}
use Rattle.conv.proofs.start.Given as goal

abbrev pub invariant-loop-bit : goal.invariant-loop-bit
invariant-loop-bit l = (l.bit-index ≤ 14) × (l.state ≡ made (bits_of l.bits) (length l.bits - 14 + l.bit-index) l.bit-index)
