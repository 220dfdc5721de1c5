-- The tracker is refused by the first number of the order whose cause holds. Assumes nothing.
use Prim.Native.Nat.{ℕ}
use mathlib.Core.List.{List}
use mathlib.Core.Path.{◌≡◌, refl}
use lib.IntN.{ℤ}
use Rattle.util.specs.Refusal.{refused, First, NoneBelow}
use Rattle.util.proofs.First.{first}
use Rattle.blocks.specs.declared.Block.{Block}
use Rattle.tracker.specs.Rule.{causes, track_answer}
use Rattle.tracker.specs.declared.Sample.{Sample}
use Rattle.tracker.specs.declared.Tracker.{Tracker}

pub track-first : (mode : ℕ) (t : Tracker) (shifts : List ℤ) (blocks : List Block) (s : Sample) (k : ℕ) → track_answer mode t shifts blocks s ≡ refused k
    → First k (causes mode t shifts blocks s)
track-first mode t shifts blocks s k e = first (causes mode t shifts blocks s) tt k refl e

-- and by the lowest, as document 01 says: its causes' numbers rise
pub track-lowest : (mode : ℕ) (t : Tracker) (shifts : List ℤ) (blocks : List Block) (s : Sample) (k : ℕ) → track_answer mode t shifts blocks s ≡ refused k
    → NoneBelow k (causes mode t shifts blocks s)
track-lowest mode t shifts blocks s k e = (track-first mode t shifts blocks s k e).lowest refl
