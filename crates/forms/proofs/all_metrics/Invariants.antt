-- The loop's invariant: the metrics of the symbols passed are stored. The measure is what is left of them. Assumes
-- nothing.
use Prim.Native.Nat.{ℕ, ◌*◌, ◌-◌, ◌≤◌, ◌<◌}
use mathlib.Core.Path.{◌≡◌}
use lib.Ieee.{nan}
use lib.ListN.{length, get_or}
use Rattle.forms.specs.Inside.{heard}
use Rattle.forms.specs.Burst.{value_of}
use Rattle.symbol.specs.Symbol.{metric_out}
use Rattle.util.specs.Table.{rows}
use Rattle.forms.proofs.all_metrics.Given as goal

abbrev pub invariant-loop-i : goal.invariant-loop-i
invariant-loop-i l = (l.i ≤ length l.burst.blanked.now) × (length l.out ≡ length l.initial.out)
    × ((q : ℕ) → q < 32 * l.i → get_or l.out q nan ≡ rows 32 (λ j. metric_out (value_of (heard l.burst) j)) q)

abbrev pub decreases-loop-i : goal.decreases-loop-i
decreases-loop-i l = length l.burst.blanked.now - l.i
