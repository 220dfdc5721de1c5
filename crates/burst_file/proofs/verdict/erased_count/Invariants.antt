-- The loop's invariant: the count is that of the places passed. The measure is what is left of the list. Assumes
-- nothing.
use Prim.Native.Nat.{◌-◌, ◌≤◌}
use mathlib.Core.Path.{◌≡◌}
use lib.ListN.{length, get_or}
use Rattle.symbol.specs.Symbol.{erased_of}
use Rattle.burst_file.specs.Verdict.{count_of}
use Rattle.burst_file.proofs.verdict.erased_count.Given as goal

abbrev pub invariant-loop-i : goal.invariant-loop-i
invariant-loop-i l = (l.i ≤ length l.counts) × (l.n ≡ count_of (λ k. erased_of l.layout l.window (get_or l.counts k 0)) l.i) × (l.n ≤ l.i)

abbrev pub decreases-loop-i : goal.decreases-loop-i
decreases-loop-i l = length l.counts - l.i
