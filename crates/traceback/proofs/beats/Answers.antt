-- `traceback::beats` meets its contract, by the cases of the best candidate. Assumes nothing.
use Rattle.std.proofs.Common.{◌≡◌, Bool, rules}
use Rattle.std.specs.Prelude.{Float, Option, None, Some, IsTrue, MatchOption}
use Rattle.std.specs.Float.Ieee.{lt}
use Rattle.trellis.specs.Numbers.{single}
use Rattle.trellis.specs.Search.{beats}
use Rattle.traceback.specs.Best.{best_is}
use Rattle.traceback.specs.declared.Best.{Best}
use Rattle.traceback.proofs.beats.Goals as goal

by-case : (o : Option Best) (gain : Float) (r : Bool) (P : Best → Type 0) → MatchOption o (IsTrue r) P → ((b : Best) → P b → r ≡ lt b.gain gain)
    → r ≡ beats single (best_is o) gain
unfolding beats
by-case None gain r P e some = e
by-case (Some b) gain r P e some = some b e

pub returns : goal.returns
returns c = by-case c.args.best c.args.gain _ _ c.is_none_or.ensures (λ b e. search rules)
