-- The candidates of a pass, over decisions d of n steps, end scores e and start scores f. `candidates` of crate trellis
-- is this at a pass's own.
use Rattle.std.specs.Prelude.{ℕ, zero, suc, Bool, ◌&&◌, eqb, Float}
use Rattle.std.proofs.Math.Option.{Option, some}
use Rattle.std.specs.Float.Ieee.{sub}
use Rattle.std.specs.Float.{binary32}
use Rattle.util.specs.Choose.{choose}
use Rattle.trellis.specs.Numbers.{single}
use Rattle.trellis.specs.Search.{Candidate, trace_start, trace_word, beats}

module _ (d : ℕ → ℕ → Bool) (n : ℕ) where
  -- state s with gain g, after an earlier best
  unfoldable pub considered : Option (Candidate Float) → Float → ℕ → Option (Candidate Float)
  considered best g s =
      choose (eqb (trace_start 16384 d n s) s && beats single best g) (some (record { word = trace_word 16384 d n s; gain = g })) best

  -- the first k states, one after the other
  unfoldable pub scanned : (ℕ → Float) → (ℕ → Float) → Option (Candidate Float) → ℕ → Option (Candidate Float)
  scanned e f best zero = best
  scanned e f best (suc k) = considered (scanned e f best k) (sub binary32 (e k) (f k)) k
