-- Inside: the answer of a call by what is gathered of its blocks (crate `fit`). Only contracts of inside functions cite what is here.
use Rattle.std.specs.Prelude.{ℕ, ◌*◌, ◌/◌, ◌≤◌, ◌<◌, Bool, not, ◌&&◌, ◌||◌, List, [], ◌∷◌, ◌≡◌, leb, ltb, eqb, ℤ, length}
use Rattle.util.specs.Refusal.{Cause, Outcome, outcome}
use Rattle.blocks.specs.declared.Gathered.{Gathered}
use Rattle.tracker.specs.Rule.{block_length, in_whole_blocks, calls_kept, count_kept, drift_kept, sums_kept, shifts_kept, in_range}
use Rattle.tracker.specs.declared.Sample.{Sample}
use Rattle.tracker.specs.declared.Tracker.{Tracker}

-- the rule, the causes and the answer, told whether the listed places keep the rule (`places`) and the listed blocks are good;
-- `room` is the length of their list. `track_answer` is `answer_with` of what its own blocks are (proofs/Answers, `with_blocks`).
abbrev pub rule_with : ℕ → Tracker → List ℤ → Bool → Bool
rule_with mode t shifts places =
    calls_kept t && (count_kept mode t && (places && (drift_kept mode t && (sums_kept t && shifts_kept t shifts))))

abbrev pub causes_with : ℕ → Tracker → List ℤ → ℕ → Sample → Bool → Bool → List Cause
causes_with mode t shifts room s places good =
    (record { holds = ltb 1 mode; number = 1 })
    ∷ (record { holds = not (eqb (length shifts) 2048 && eqb room 64); number = 4 })
    ∷ (record { holds = not (in_range s); number = 8 })
    ∷ (record { holds = eqb t.n 2048 || not (rule_with mode t shifts places); number = 9 })
    ∷ (record { holds = not good; number = 10 })
    ∷ []

abbrev pub answer_with : ℕ → Tracker → List ℤ → ℕ → Sample → Bool → Bool → Outcome Unit
answer_with mode t shifts room s places good = outcome (causes_with mode t shifts room s places good) tt

-- the answer by what is gathered
abbrev pub answer_in : ℕ → Tracker → List ℤ → ℕ → Gathered → Sample → Outcome Unit
answer_in mode t shifts room g s = answer_with mode t shifts room s (leb g.top (2 * in_whole_blocks mode t.n)) g.good

-- how many listed blocks may be read: all where n and the count keep the rule
pub record Readable (mode : ℕ) (t : Tracker) (room r : ℕ) : Type 0 where
  pub there : r ≤ room
  pub few : r ≤ 64
  pub all : t.n < 2048 → t.blocks ≤ in_whole_blocks mode t.n / block_length mode → room ≡ 64 → r ≡ t.blocks
