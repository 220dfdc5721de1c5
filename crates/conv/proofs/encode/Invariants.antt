-- The loop's invariant: the state is the walk's after j steps, and the labels of the first j are placed. The measure is
-- what is left of the length. Assumes nothing.
use Prim.Native.Nat.{ℕ, ◌-◌, ◌≤◌}
use mathlib.Core.List.{List}
use mathlib.Core.Path.{◌≡◌}
use Rattle.frame.specs.Format.{header_bits}
use Rattle.frame.specs.Air.{placed}
use Rattle.conv.specs.Encoder as encoder
use Rattle.conv.specs.Sent.{bits_of, step_label}
use Rattle.conv.proofs.encode.Given as goal

-- the state after j steps
unfoldable pub after : List ℕ → ℕ → ℕ → ℕ
after bits n j = encoder.state 16384 (encoder.made (bits_of bits) n 14) (bits_of bits) j

abbrev pub invariant-loop-j : goal.invariant-loop-j
invariant-loop-j l = (l.j ≤ header_bits l.kind) × (l.state ≡ after l.bits (header_bits l.kind) l.j) × (l.values ≡ placed (header_bits l.kind) (step_label (bits_of l.bits) (header_bits l.kind)) l.j l.initial.values)

abbrev pub decreases-loop-j : goal.decreases-loop-j
decreases-loop-j l = header_bits l.kind - l.j
