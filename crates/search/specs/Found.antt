-- The search's answer as the code holds it, in the words of crate trellis.
use Rattle.std.specs.Prelude.{ℕ, Float}
use Rattle.std.proofs.Math.Option.{Option, none, some}
use Rattle.trellis.specs.Search as Search
use Rattle.search.specs.declared.How.{How}
use Rattle.search.specs.declared.How.TheVariants.{Closing, Candidate, Unclosed}
use Rattle.search.specs.declared.Found.{Found}

abbrev pub how_is : How → Search.How
how_is (Closing pass) = Search.closing pass
how_is Candidate = Search.candidate
how_is Unclosed = Search.unclosed

abbrev pub found_is : Found → Search.Found Float
found_is f = record { how = how_is f.how; word = f.word; score = f.score }

-- after the last pass: the best candidate, or else the word w with its score
abbrev pub best_or_last : Option (Search.Candidate Float) → ℕ → Float → Search.Found Float
best_or_last none w x = record { how = Search.unclosed; word = w; score = x }
best_or_last (some c) w x = record { how = Search.candidate; word = c.word; score = c.gain }
