-- The search worked out on a small code of 4 states and 2 steps: each way a word can come out, as the Rust's decode_tb gives it; ceilings, and each
-- outcome that they give. Assumes nothing.
use Prim.Native.Nat.{ℕ}
use mathlib.Core.Path.{◌≡◌, refl}
use mathlib.Core.List.{List, [], ◌∷◌}
use lib.ListN.{get_or}
use mathlib.Core.Bool.{true}
use lib.IntN.{ℤ, pos}
use lib.Ieee.{Float, binary32, of_int, add, sub, lt}
use Rattle.ieee.specs.Whole.{run}
use Rattle.conv.specs.Encoder.{state, made}
use Rattle.trellis.specs.Scale.{Scale, highest}
use Rattle.trellis.specs.Trellis.{Trellis, closed_score}
use Rattle.trellis.specs.Search.{closing, candidate, unclosed, top_of, trace_start, trace_word, beats, scores}
use Rattle.trellis.specs.Search.{decision, candidates, begin, closes_in, last, ceiling_to, ceiling, best, settled, search}
use Rattle.trellis.specs.Answer.{Answer, Sure, Likely, Kept, Open, answer_of}
use Rattle.trellis.specs.Numbers.{single, whole}

-- what registers 0 to 7 earn at step 0, and at step 1
small : List ℕ → List ℕ → Trellis ℤ
small a b = record { scale = whole; states = 4; steps = 2; earn = λ j r. pos (get_or (get_or (a ∷ b ∷ []) j []) r 0) }

-- every tie goes to the lower register, and of equal end scores the lowest state is the end state
ties : search (small [] []) ≡ record { how = closing 1; word = 0; score = pos 0 }
unfolding small search settled best last closes_in begin candidates beats trace_start trace_word highest scores decision
ties = refl

-- out in the first pass
first : search (small (0 ∷ 0 ∷ 0 ∷ 0 ∷ 0 ∷ 0 ∷ 0 ∷ 1 ∷ []) (1 ∷ 1 ∷ 1 ∷ 0 ∷ 0 ∷ 0 ∷ 0 ∷ 0 ∷ [])) ≡ record { how = closing 1; word = 0; score = pos 1 }
unfolding small search settled best last closes_in begin candidates beats trace_start trace_word highest scores decision
first = refl

-- out in a later pass: the score is less that pass's start score
second : search (small (1 ∷ 2 ∷ 1 ∷ 0 ∷ 1 ∷ 0 ∷ 0 ∷ 0 ∷ []) (0 ∷ 0 ∷ 0 ∷ 1 ∷ 0 ∷ 1 ∷ 0 ∷ 0 ∷ [])) ≡ record { how = closing 2; word = 2; score = pos 2 }
unfolding small search settled best last closes_in begin candidates beats trace_start trace_word highest scores decision
second = refl

third : search (small (0 ∷ 0 ∷ 0 ∷ 2 ∷ 0 ∷ 1 ∷ 0 ∷ 0 ∷ []) (2 ∷ 0 ∷ 0 ∷ 2 ∷ 1 ∷ 0 ∷ 0 ∷ 1 ∷ [])) ≡ record { how = closing 3; word = 0; score = pos 2 }
unfolding small search settled best last closes_in begin candidates beats trace_start trace_word highest scores decision
third = refl

-- a candidate of the first pass, and one of the second: a later one with an equal gain is not taken
kept-from-first : search (small (0 ∷ 0 ∷ 2 ∷ 0 ∷ 1 ∷ 0 ∷ 2 ∷ 0 ∷ []) (0 ∷ 0 ∷ 0 ∷ 1 ∷ 0 ∷ 0 ∷ 0 ∷ 0 ∷ [])) ≡ record { how = candidate; word = 2; score = pos 2 }
unfolding small search settled best last closes_in begin candidates beats trace_start trace_word highest scores decision
kept-from-first = refl

kept-from-second : search (small (0 ∷ 0 ∷ 2 ∷ 0 ∷ 2 ∷ 0 ∷ 0 ∷ 1 ∷ []) []) ≡ record { how = candidate; word = 2; score = pos 2 }
unfolding small search settled best last closes_in begin candidates beats trace_start trace_word highest scores decision
kept-from-second = refl

-- the last unclosed word: the score is less the start score of the state that the traceback reaches
left_open : search (small (0 ∷ 2 ∷ 1 ∷ 1 ∷ 0 ∷ 0 ∷ 0 ∷ 0 ∷ []) (0 ∷ 1 ∷ 1 ∷ 0 ∷ 1 ∷ 0 ∷ 1 ∷ 0 ∷ [])) ≡ record { how = unclosed; word = 0; score = pos 2 }
unfolding small search settled best last closes_in begin candidates beats trace_start trace_word highest scores decision
left_open = refl

-- ---- ceilings, but for one on 2 states and 2 steps

-- what registers 0 to 3 earn at step 0, and at step 1
tiny : {A : Type 0} → Scale A → (ℕ → A) → List ℕ → List ℕ → Trellis A
tiny S of a b = record { scale = S; states = 2; steps = 2; earn = λ j r. of (get_or (get_or (a ∷ b ∷ []) j []) r 0) }

answered : List ℕ → List ℕ → Answer ℤ
answered a b = answer_of whole (search (tiny whole pos a b)) (ceiling (tiny whole pos a b))

-- out in the first pass, at the ceiling as ever
sure-first : answered [] [] ≡ record { word = 0; outcome = Sure (pos 0) 1; ceiling = pos 0 }
unfolding answered tiny search settled best last closes_in begin candidates beats trace_start trace_word highest scores decision ceiling ceiling_to
sure-first = refl

-- tops of 4 and 3; out in the second pass with score 2, and no closed word scores more: the ceiling need not be reached, and a Likely word may be the
-- best one
likely-second : answered (0 ∷ 0 ∷ 0 ∷ 2 ∷ []) (0 ∷ 1 ∷ 2 ∷ 0 ∷ []) ≡ record { word = 1; outcome = Likely (pos 2) 2; ceiling = pos 3 }
unfolding answered tiny search settled best last closes_in begin candidates beats trace_start trace_word highest scores decision ceiling ceiling_to
likely-second = refl

-- out in the second pass at the ceiling
sure-second : answered [] (0 ∷ 0 ∷ 0 ∷ 1 ∷ []) ≡ record { word = 3; outcome = Sure (pos 1) 2; ceiling = pos 1 }
unfolding answered tiny search settled best last closes_in begin candidates beats trace_start trace_word highest scores decision ceiling ceiling_to
sure-second = refl

-- a candidate of the first pass at the ceiling has the last pass run, and one below it is Kept
sure-candidate : answered (0 ∷ 0 ∷ 0 ∷ 1 ∷ []) [] ≡ record { word = 3; outcome = Sure (pos 1) 3; ceiling = pos 1 }
unfolding answered tiny search settled best last closes_in begin candidates beats trace_start trace_word highest scores decision ceiling ceiling_to
sure-candidate = refl

kept-candidate : answered (0 ∷ 1 ∷ []) (1 ∷ 0 ∷ 0 ∷ 1 ∷ []) ≡ record { word = 0; outcome = Kept (pos 1); ceiling = pos 2 }
unfolding answered tiny search settled best last closes_in begin candidates beats trace_start trace_word highest scores decision ceiling ceiling_to
kept-candidate = refl

-- an unclosed word at the ceiling stays Open
open-at-ceiling : answered (0 ∷ 0 ∷ 0 ∷ 1 ∷ []) (0 ∷ 1 ∷ []) ≡ record { word = 1; outcome = Open (pos 1); ceiling = pos 1 }
unfolding answered tiny search settled best last closes_in begin candidates beats trace_start trace_word highest scores decision ceiling ceiling_to
open-at-ceiling = refl

-- on 4 states, the request's own story: out in the second pass with score 1, where the closed word 1 scores 2. It is Likely
story : Trellis ℤ
story = small (0 ∷ 0 ∷ 0 ∷ 0 ∷ 0 ∷ 0 ∷ 2 ∷ []) (0 ∷ 0 ∷ 2 ∷ 0 ∷ 0 ∷ 1 ∷ [])

beaten : answer_of whole (search story) (ceiling story) ≡ record { word = 2; outcome = Likely (pos 1) 2; ceiling = pos 3 }
unfolding story small search settled best last closes_in begin candidates beats trace_start trace_word highest scores decision ceiling ceiling_to
beaten = refl

by-another : closed_score story 2 1 ≡ pos 2
unfolding story small run made state
by-another = refl

-- tops of 3, 3 and 2: the score of an unclosed word may lie above the ceiling
open_above : search (small (0 ∷ 0 ∷ 0 ∷ 2 ∷ 0 ∷ 0 ∷ 1 ∷ 1 ∷ []) (0 ∷ 2 ∷ 0 ∷ 0 ∷ 0 ∷ 0 ∷ 0 ∷ 1 ∷ [])) ≡ record { how = unclosed; word = 3; score = pos 3 }
unfolding small search settled best last closes_in begin candidates beats trace_start trace_word highest scores decision
open_above = refl

open-above-ceiling : ceiling (small (0 ∷ 0 ∷ 0 ∷ 2 ∷ 0 ∷ 0 ∷ 1 ∷ 1 ∷ []) (0 ∷ 2 ∷ 0 ∷ 0 ∷ 0 ∷ 0 ∷ 0 ∷ 1 ∷ [])) ≡ pos 2
unfolding small ceiling ceiling_to last closes_in begin trace_start highest scores decision
open-above-ceiling = refl

-- at f32 a later pass's top can be greater, by rounding: 25,165,826 and then 25,165,828. The ceiling is the least, not the last
rising : Trellis Float
rising = tiny single (λ k. of_int binary32 (pos k)) (0 ∷ 0 ∷ 2 ∷ 0 ∷ []) (25165824 ∷ 0 ∷ 0 ∷ 3 ∷ [])

rising-top : lt (top_of rising (begin rising 0)) (top_of rising (begin rising 1)) ≡ true
unfolding rising tiny begin highest scores lt add sub of_int
rising-top = refl

rising-ceiling : ceiling rising ≡ of_int binary32 (pos 25165826)
unfolding rising tiny ceiling ceiling_to last closes_in begin trace_start highest scores decision lt add sub of_int
rising-ceiling = refl
