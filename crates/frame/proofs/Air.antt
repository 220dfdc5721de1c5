-- Where a symbol falls, for any bin count: a hop and a bin lie on the grid, the 32 values of a symbol on different bins, a place and
-- the two beside it in the row of 52; and every step has a slot of its own.
-- Assumes nothing.
use Prim.Native.Nat.{ℕ, ◌+◌, ◌-◌, ◌%◌, ◌≤◌, ◌<◌}
use mathlib.Core.Bool.{Bool, true, false}
use mathlib.Core.Path.{◌≡◌, refl, sym}
use native.Mathlib.Nat.{mod-lt}
use native.Mathlib.Omega.{arith}
use lib.Dec.{eqb, lit≤}
use Rattle.util.specs.Choose.{choose}
use Rattle.util.specs.Multiplier.{mult_of}
use Rattle.util.proofs.Slots.{no-further, slot-below, one-to-one}
use Rattle.util.proofs.Found.{mult-coprime}
use Rattle.frame.specs.Format.{r0, r1, format_of, header_bits}
use Rattle.frame.specs.Air.{hop_of, bin_of, place_of, slot_of}

-- a mode has bins for the 32 values, and at most 48
pub some-bins : (mode : ℕ) → (32 ≤ (format_of mode).bins) × ((format_of mode).bins ≤ 48)
some-bins mode = by (eqb mode 0)
  where
    by : (t : Bool) → (32 ≤ (choose t r0 r1).bins) × ((choose t r0 r1).bins ≤ 48)
    by true = (lit≤ tt, lit≤ tt)
    by false = (lit≤ tt, lit≤ tt)

pub bins-some : (mode : ℕ) → 0 < (format_of mode).bins
bins-some mode = omega (arith, (some-bins mode).0)

pub bins-most : (mode : ℕ) → (format_of mode).bins ≤ 48
bins-most mode = (some-bins mode).1

pub hop-below : (bins i : ℕ) → 0 < bins → hop_of bins i < bins
unfolding hop_of
hop-below bins i h = mod-lt _ h

pub bin-below : (bins h v : ℕ) → 0 < bins → bin_of bins h v < bins
bin-below bins h v pos = mod-lt (h + v) pos

-- values fall on different bins, as long as there are no more of them than bins
pub bins-differ : (bins h v w : ℕ) → v < bins → w < bins → bin_of bins h v ≡ bin_of bins h w → v ≡ w
bins-differ bins h v w hv hw e =
    let low : h + w ≤ h + v = no-further (h + v) (h + w) bins (omega arith) e (omega arith) in
    let high : h + v ≤ h + w = no-further (h + w) (h + v) bins (omega arith) (sym e) (omega arith) in
    omega arith

-- the five terms of a metric are read in the row: place - 2 to place + 2 of a bin below 48
pub place-within : (bin j : ℕ) → bin < 48 → j < 5 → place_of bin + j - 2 < 52
place-within bin j hb hj = omega arith

-- a slot is one of the n, and no two steps share one
pub slot-within : (n p : ℕ) → p < n → slot_of n p < n
unfolding slot_of
slot-within n p h = slot-below (mult_of n) p n h

pub slots-differ : (n p q : ℕ) → p < n → q < n → slot_of n p ≡ slot_of n q → p ≡ q
unfolding slot_of
slots-differ n p q hp hq e = one-to-one (mult_of n) n p q (mult-coprime n (omega arith)) hp hq e

-- a header has 48 or 64 steps
pub header-most : (kind : ℕ) → header_bits kind ≤ 64
header-most kind = by (eqb kind 1)
  where
    by : (t : Bool) → choose t 64 48 ≤ 64
    by true = lit≤ tt
    by false = lit≤ tt

pub header-least : (kind : ℕ) → 48 ≤ header_bits kind
header-least kind = by (eqb kind 1)
  where
    by : (t : Bool) → 48 ≤ choose t 64 48
    by true = lit≤ tt
    by false = lit≤ tt

pub header-even : (kind : ℕ) → header_bits kind % 2 ≡ 0
header-even kind = by (eqb kind 1)
  where
    by : (t : Bool) → choose t 64 48 % 2 ≡ 0
    by true = refl
    by false = refl
