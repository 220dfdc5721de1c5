-- The loop's invariant: the soft bits of the symbols passed are stored. The measure is what is left of them. Assumes
-- nothing.
use Prim.Native.Nat.{ℕ, ◌*◌, ◌-◌, ◌≤◌, ◌<◌}
use mathlib.Core.Bool.{true}
use mathlib.Core.Path.{◌≡◌}
use lib.Ieee.{nan}
use lib.ListN.{length, get_or}
use Rattle.forms.specs.Inside.{heard}
use Rattle.forms.specs.Burst.{value_of}
use Rattle.symbol.specs.Symbol.{soft_bit}
use Rattle.util.specs.Table.{rows}
use Rattle.forms.proofs.all_bits.Given as goal

abbrev pub invariant-loop-i : goal.invariant-loop-i
invariant-loop-i l = (l.i ≤ length l.burst.blanked.now) × (length l.slots ≡ length l.initial.slots)
    × ((q : ℕ) → q < 5 * l.i → get_or l.slots q nan ≡ rows 5 (λ j k. soft_bit true k (value_of (heard l.burst) j)) q)

abbrev pub decreases-loop-i : goal.decreases-loop-i
decreases-loop-i l = length l.burst.blanked.now - l.i
