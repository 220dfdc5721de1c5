-- Document 01, 'Drift': a burst's calls, one after another, from a fresh tracker.
use Rattle.std.specs.Prelude.{ℕ, ◌+◌, List, [], ◌∷◌, eqb, ℤ}
use Rattle.util.specs.Choose.{choose}
use Rattle.util.specs.Refusal.{afterwards}
use Rattle.tracker.specs.Rule.{fresh_of, track_answer}
use Rattle.drift.specs.Entry.{tracker_after, shifts_after, blocks_after}
use Rattle.blocks.specs.declared.Block.{Block}
use Rattle.tracker.specs.declared.Sample.{Sample}
use Rattle.tracker.specs.declared.Tracker.{Tracker}

-- a tracker with its lists
pub record Burst : Type 0 where
  pub tracker : Tracker
  pub shifts : List ℤ
  pub blocks : List Block

-- a fresh tracker, whatever its lists hold
abbrev pub begun : List ℤ → List Block → Burst
begun shifts blocks = record { tracker = fresh_of; shifts = shifts; blocks = blocks }

abbrev pub next : ℕ → Burst → Sample → Burst
next mode u s =
    record {
      tracker = tracker_after mode u.tracker u.shifts u.blocks s;
      shifts = shifts_after mode u.tracker u.shifts u.blocks s;
      blocks = blocks_after mode u.tracker u.shifts u.blocks s;
    }

-- after a series of samples, whichever of them are refused
unfoldable pub after : ℕ → Burst → List Sample → Burst
after mode u [] = u
after mode u (s ∷ ss) = after mode (next mode u s) ss

-- how many calls of a series are accepted
unfoldable pub accepted_in : ℕ → Burst → List Sample → ℕ
accepted_in mode u [] = 0
accepted_in mode u (s ∷ ss) = afterwards (track_answer mode u.tracker u.shifts u.blocks s) 0 1 + accepted_in mode (next mode u s) ss

-- |shift| ≤ 137 in R0, 69 in R1
abbrev pub farthest : ℕ → ℕ
farthest mode = choose (eqb mode 0) 137 69
