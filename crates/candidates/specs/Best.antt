-- The best candidate within a pass as the code holds it, in the words of crate trellis.
use Rattle.std.specs.Prelude.{ℕ, ◌<◌, Bool, Float}
use Rattle.std.proofs.Math.Option.{Option, some}
use Rattle.trellis.specs.Search.{Candidate, trace_word}
use Rattle.traceback.specs.Best.{best_is}
use Rattle.candidates.specs.declared.Held.{Held}
use Rattle.candidates.specs.declared.Held.TheVariants.{Earlier, State}

-- the best candidate within a pass, whose decisions d of n steps say what word a state stands for
abbrev pub held_is : (ℕ → ℕ → Bool) → ℕ → Held → Option (Candidate Float)
held_is d n (Earlier best) = best_is best
held_is d n (State s g) = some (record { word = trace_word 16384 d n s; gain = g })

-- the state that is held is one
abbrev pub Inside : Held → Type 0
Inside (Earlier best) = Unit
Inside (State s g) = s < 16384
