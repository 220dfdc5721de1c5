-- The loop's invariant: the bytes still to write and those written behind them are the number's.
use Prim.Native.Nat.{◌+◌, ◌≤◌}
use mathlib.Core.List.{◌++◌}
use mathlib.Core.Path.{◌≡◌}
use lib.ListN.{length, take}
use lib.Seq.{slice}
use Rattle.wire.specs.Bytes.{big}
use Rattle.wire.proofs.put.Given as goal

abbrev pub invariant-loop-i : goal.invariant-loop-i
invariant-loop-i l = (length l.out ≡ length l.initial.out) × (l.i ≤ l.width) × (take l.at l.out ≡ take l.at l.initial.out) × (big l.i l.rest ++ slice (l.at + l.i) (l.at + l.width) l.out ≡ big l.width l.value)
