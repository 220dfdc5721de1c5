-- Document 02, #110: the two judgements that its order changes, and no others. #105's order stands here for this alone.
use Rattle.std.specs.Prelude.{ℕ, Bool, false, not, ◌&&◌, ◌||◌, List, [], ◌∷◌, ◌≡◌, eqb}
use Rattle.util.specs.Choose.{choose}
use Rattle.util.specs.Some.{some_of}
use Rattle.slip.specs.Slips.{taken}
use Rattle.slip.specs.declared.Fields.{Fields}
use Rattle.board.specs.Rules.{Rule, better, later, reading_first}

-- #105: the start is tried first, the reading only between equal starts; if both are equal the listed slip remains
abbrev pub start_first : Rule
start_first listed new = choose (eqb listed.start new.start) (better listed new) (later listed new)

-- the new slip is later but reads worse
abbrev pub later_worse : Fields → Fields → Bool
later_worse listed new = later listed new && better new listed

-- the new slip is earlier but reads better
abbrev pub earlier_better : Fields → Fields → Bool
earlier_better listed new = later new listed && better listed new

pub record Changed (listed new : Fields) : Type 0 where
  -- it replaced the listed one and no longer does exactly where it is later but reads worse
  pub no_longer : (start_first listed new && not (reading_first listed new)) ≡ later_worse listed new
  -- it did not and now does exactly where it is earlier but reads better
  pub now-does : (not (start_first listed new) && reading_first listed new) ≡ earlier_better listed new
  -- everywhere else it is judged as before
  pub as_before : later_worse listed new ≡ false → earlier_better listed new ≡ false → reading_first listed new ≡ start_first listed new

-- ---- in a series: two of its slips of which one is later than the other but reads worse

abbrev pub at_odds : List ℕ → List ℕ → Bool
at_odds x y = later_worse (taken x) (taken y) || later_worse (taken y) (taken x)

unfoldable pub some_at_odds : List (List ℕ) → Bool
some_at_odds [] = false
some_at_odds (x ∷ xs) = some_of (at_odds x) xs || some_at_odds xs
