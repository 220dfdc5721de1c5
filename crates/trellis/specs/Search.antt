-- Document 01, 'A header read': the search, over any kind of score. It is a Viterbi search over a tail-biting code, wrapped around the trellis at
-- most three times: each pass starts from the scores in which the one before ended. A table of scores is a function from the state.
-- Document 02, #106: its ceiling.
use Rattle.std.specs.Prelude.{ℕ, zero, suc, ◌+◌, ◌*◌, ◌/◌, ◌%◌, ◌^◌, Bool, true, ◌&&◌, eqb}
use Rattle.std.proofs.Math.Option.{Option, none, some}
use Rattle.util.specs.Choose.{choose}
use Rattle.trellis.specs.Scale.{Scale, highest, lesser}
use Rattle.trellis.specs.Trellis.{Trellis}

-- The register by which state s was reached (its survivor): s itself, or s + N where the decision is for the upper one.
abbrev pub came_by : ℕ → Bool → ℕ → ℕ
came_by N upper s = choose upper (s + N) s

-- The traceback from state s over j steps, where d i s is the decision of step i for state s: the state that it reaches, and the word.
unfoldable pub trace_start : ℕ → (ℕ → ℕ → Bool) → ℕ → ℕ → ℕ
trace_start N d zero s = s
trace_start N d (suc j) s = trace_start N d j (came_by N (d j s) s / 2)

unfoldable pub trace_word : ℕ → (ℕ → ℕ → Bool) → ℕ → ℕ → ℕ
trace_word N d zero s = 0
trace_word N d (suc j) s = s % 2 * 2 ^ j + trace_word N d j (came_by N (d j s) s / 2)

-- a candidate carries its word
pub record Candidate (A : Type 0) : Type 0 where
  pub word : ℕ
  pub gain : A

-- a later one needs a strictly greater gain
unfoldable pub beats : {A : Type 0} → Scale A → Option (Candidate A) → A → Bool
beats S none g = true
beats S (some b) g = S.gt g b.gain

-- how a word came out: by closing in a pass (1 to 3), as the best candidate after three passes, or as the last unclosed word
pub data How : Type 0 where
  closing : ℕ → How
  candidate : How
  unclosed : How

pub record Found (A : Type 0) : Type 0 where
  pub how : How
  pub word : ℕ
  pub score : A

-- ---- one pass, from the start scores f

module _ {A : Type 0} (X : Trellis A) where
  -- what register r brings at step j: the score of its state (the path metric), and what it earns (the branch metric)
  abbrev pub brings : (ℕ → A) → ℕ → ℕ → A
  brings f j r = X.scale.add (f (r / 2)) (X.earn j r)

  -- state s is reached from register s or s + 16384, the second only on strictly greater score: add, compare, select
  abbrev pub upper : (ℕ → A) → ℕ → ℕ → Bool
  upper f j s = X.scale.gt (brings f j (s + X.states)) (brings f j s)

  abbrev pub step : (ℕ → A) → ℕ → ℕ → A
  step f j s = choose (upper f j s) (brings f j (s + X.states)) (brings f j s)

  -- the scores after j steps (a state's path metric), and the decision of step j (its survivor)
  unfoldable pub scores : (ℕ → A) → ℕ → ℕ → A
  scores f zero = f
  scores f (suc j) = step (scores f j) j

  unfoldable pub decision : (ℕ → A) → ℕ → ℕ → Bool
  decision f j s = upper (scores f j) j s

  -- the end scores; end state is the lowest of the greatest
  abbrev pub final : (ℕ → A) → ℕ → A
  final f = scores f X.steps

  abbrev pub end_state : (ℕ → A) → ℕ
  end_state f = highest X.scale (final f) X.states

  -- the traceback from state s, whether it closes, and its word's score: the end score less the start score of the state it reaches
  abbrev pub start_of : (ℕ → A) → ℕ → ℕ
  start_of f s = trace_start X.states (decision f) X.steps s

  abbrev pub word_of : (ℕ → A) → ℕ → ℕ
  word_of f s = trace_word X.states (decision f) X.steps s

  abbrev pub closes : (ℕ → A) → ℕ → Bool
  closes f s = eqb (start_of f s) s

  abbrev pub score_of : (ℕ → A) → ℕ → A
  score_of f s = X.scale.sub (final f s) (f (start_of f s))

  -- a state's gain: its end score less its start score
  abbrev pub gain_of : (ℕ → A) → ℕ → A
  gain_of f s = X.scale.sub (final f s) (f s)

  -- the pass's top: the greatest gain of all its states, whether or not their tracebacks close (document 02, #106)
  abbrev pub top_of : (ℕ → A) → A
  top_of f = gain_of f (highest X.scale (gain_of f) X.states)

  -- every state whose own traceback closes is a candidate by its gain: the best after the first k states, from what earlier passes left
  unfoldable pub candidates : (ℕ → A) → Option (Candidate A) → ℕ → Option (Candidate A)
  candidates f best zero = best
  candidates f best (suc k) =
      choose (closes f k && beats X.scale (candidates f best k) (gain_of f k)) (some (record { word = word_of f k; gain = gain_of f k }))
      (candidates f best k)

  -- ---- the passes, counted from 0

  -- all scores start at nil; after a pass all lose the best score, and the next pass starts there
  abbrev pub lowered : (ℕ → A) → ℕ → A
  lowered f s = X.scale.sub (final f s) (final f (end_state f))

  unfoldable pub begin : ℕ → ℕ → A
  begin zero = λ s. X.scale.nil
  begin (suc k) = lowered (begin k)

  -- if traceback meets the end state, the word is out
  unfoldable pub closes_in : ℕ → Bool
  closes_in k = closes (begin k) (end_state (begin k))

  -- the last pass run: the first that closes, at most the third
  unfoldable pub last : ℕ
  last = choose (closes_in 0) 0 (choose (closes_in 1) 1 2)

  -- the least of the tops of passes 0 to k
  unfoldable pub ceiling_to : ℕ → A
  ceiling_to zero = top_of (begin zero)
  ceiling_to (suc k) = lesser X.scale (ceiling_to k) (top_of (begin (suc k)))

  -- the ceiling: the least over the passes run, one that closes included
  unfoldable pub ceiling : A
  ceiling = ceiling_to last

  -- the best candidate of the first k passes
  unfoldable pub best : ℕ → Option (Candidate A)
  best zero = none
  best (suc k) = candidates (begin k) (best k) X.states

  -- the word of pass k, traced back from its end state
  abbrev pub word_in : How → ℕ → Found A
  word_in how k = record { how = how; word = word_of (begin k) (end_state (begin k)); score = score_of (begin k) (end_state (begin k)) }

  -- after three passes: the best candidate, or else the last unclosed word
  unfoldable pub settled : Option (Candidate A) → Found A
  settled none = word_in unclosed 2
  settled (some c) = record { how = candidate; word = c.word; score = c.gain }

  -- a word that is out by closing, or else what three passes leave
  unfoldable pub search : Found A
  search = choose (closes_in last) (word_in (closing (suc last)) last) (settled (best 3))
