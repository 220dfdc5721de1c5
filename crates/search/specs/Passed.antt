-- What one pass found, traced back from its end state, and its top.
use Rattle.std.specs.Prelude.{List, ◌≡◌, ℕ, Float}
use Rattle.trellis.specs.Search.{final, end_state, word_of, score_of, top_of, closes}
use Rattle.pass.specs.Areas.{over, Ran, steps_in}
use Rattle.search.specs.declared.Traceback.{Traceback}

-- from the table f: the areas as the pass leaves them, its word and score, whether it closes, the best score, and the greatest gain
pub record Passed (metrics : List Float) (f : ℕ → Float) (scores : List Float) (decisions : List ℕ) (p : Traceback) : Type 0 where
  pub ran : Ran metrics f (steps_in metrics) scores decisions
  pub word : p.word ≡ word_of (over metrics) f (end_state (over metrics) f)
  pub score : p.score ≡ score_of (over metrics) f (end_state (over metrics) f)
  pub closed : p.closed ≡ closes (over metrics) f (end_state (over metrics) f)
  pub top : p.top ≡ final (over metrics) f (end_state (over metrics) f)
  pub gain : p.gain ≡ top_of (over metrics) f
