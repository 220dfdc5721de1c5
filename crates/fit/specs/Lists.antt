-- The fit over blocks whose fields lie in two lists, as C lends them.
use Rattle.std.specs.Prelude.{ℕ, List, Float}
use Rattle.util.specs.Refusal.{Outcome}
use Rattle.blocks.specs.Lists.{blocks_of, over_lists}
use Rattle.fit.specs.Fit.{fit_answer}

abbrev pub fit_over : ℕ → List ℕ → List Float → Outcome Float
fit_over mode places timings = over_lists mode places timings (fit_answer mode (blocks_of places timings))
