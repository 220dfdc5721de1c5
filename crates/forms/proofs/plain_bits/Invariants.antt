-- The loop's invariant: the soft bits passed are stored, and inside a symbol its log-sums are there. The measure is
-- what is left of the bits. Assumes nothing.
use Prim.Native.Nat.{ℕ, ◌+◌, ◌*◌, ◌-◌, ◌/◌, ◌%◌, ◌≤◌, ◌<◌}
use mathlib.Core.Bool.{false}
use mathlib.Core.List.{List}
use mathlib.Core.Path.{◌≡◌}
use lib.Ieee.{Float, nan}
use lib.ListN.{length, get_or}
use Rattle.symbol.specs.Symbol.{soft_bit}
use Rattle.symbol.specs.Sums.{Summed}
use Rattle.util.specs.Table.{rows}
use Rattle.forms.proofs.plain_bits.Given as goal

-- the metrics of symbol i
abbrev pub of-symbol : List Float → ℕ → ℕ → Float
of-symbol metrics i v = get_or metrics (32 * i + v) nan

abbrev pub invariant-loop-p : goal.invariant-loop-p
invariant-loop-p l = (l.p ≤ length l.initial.soft) × (length l.soft ≡ length l.initial.soft)
    × ((q : ℕ) → q < l.p → get_or l.soft q nan ≡ rows 5 (λ i k. soft_bit false (4 - k) (of-symbol l.metrics i)) q)
    × ((l.p % 5 ≡ 0 → ⊥) → Summed false (of-symbol l.metrics (l.p / 5)) 32 l.sums)

abbrev pub decreases-loop-p : goal.decreases-loop-p
decreases-loop-p l = length l.initial.soft - l.p
