-- The best candidate as the code holds it, in the words of crate trellis.
use Rattle.std.proofs.Math.Option.{Option, none, some}
use Rattle.std.specs.Prelude.{Float, Option as Held, None, Some}
use Rattle.trellis.specs.Search as Search
use Rattle.traceback.specs.declared.Best.{Best}

-- the best candidate so far
abbrev pub best_is : Held Best → Option (Search.Candidate Float)
best_is None = none
best_is (Some b) = some (record { word = b.word; gain = b.gain })
