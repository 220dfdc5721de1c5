-- Document 02, #105 and #110: any series of byte strings, put one after another.
use Rattle.std.specs.Prelude.{ℕ, ◌*◌, Bool, true, false, not, ◌&&◌, List, [], ◌∷◌, ◌++◌, map, ◌≡◌, eqb, ltb, length}
use Rattle.std.proofs.Math.Option.{Option, none, some}
use Rattle.util.specs.Choose.{choose}
use Rattle.util.specs.Some.{some_of}
use Rattle.util.specs.Refusal.{Outcome, refused, accepted}
use Rattle.slip.specs.Slips.{taken, is_slip}
use Rattle.board.specs.Places.{places, segment_of, good_board, is_listed, shown}
use Rattle.board.specs.Rules.{Rule, judge}
use Rattle.board.specs.Putting.{putting, board_after, count_after}

-- a board as it is lent: its bytes and its count
pub record Board : Type 0 where
  pub bytes : List ℕ
  pub count : ℕ

-- one that is not refused
pub record Good (b : Board) : Type 0 where
  pub size : length b.bytes ≡ 44 * 512
  pub good : good_board b.bytes b.count ≡ true

-- its slips
abbrev pub listed : Board → List (List ℕ)
listed b = places b.count b.bytes

-- a put's answer, and the board that it leaves
abbrev pub answer_to : Board → List ℕ → Outcome Unit
answer_to b s = putting b.bytes b.count s

abbrev pub put : Rule → Board → List ℕ → Board
put rule b s = record { bytes = board_after rule b.bytes b.count s; count = count_after b.bytes b.count s }

-- the board after a series, and its answers
unfoldable pub ran : Rule → Board → List (List ℕ) → Board
ran rule b [] = b
ran rule b (x ∷ xs) = ran rule (put rule b x) xs

unfoldable pub answers : Rule → Board → List (List ℕ) → List (Outcome Unit)
answers rule b [] = []
answers rule b (x ∷ xs) = answer_to b x ∷ answers rule (put rule b x) xs

-- those of a series that pass a test
unfoldable pub those : (List ℕ → Bool) → List (List ℕ) → List (List ℕ)
those test [] = []
those test (x ∷ xs) = choose (test x) (x ∷ those test xs) (those test xs)

-- refused ones set aside
abbrev pub is_accepted : Outcome Unit → Bool
is_accepted (refused k) = false
is_accepted (accepted a) = true

unfoldable pub admitted : Rule → Board → List (List ℕ) → List (List ℕ)
admitted rule b [] = []
admitted rule b (x ∷ xs) = choose (is_accepted (answer_to b x)) (x ∷ admitted rule (put rule b x) xs) (admitted rule (put rule b x) xs)

abbrev pub is_of : ℕ → List ℕ → Bool
is_of g x = eqb (segment_of x) g

-- the slip that a rule leaves from a segment's own series, after what was there
unfoldable pub left : Rule → Option (List ℕ) → List (List ℕ) → Option (List ℕ)
left rule o [] = o
left rule none (x ∷ xs) = left rule (some x) xs
left rule (some l) (x ∷ xs) = left rule (some (judge rule l x)) xs

-- ---- which segments are listed

unfoldable pub has : ℕ → List ℕ → Bool
has g = some_of (λ h. eqb h g)

-- the first n different segments of a series' slips, after those in `seen`
unfoldable pub firsts : ℕ → List ℕ → List (List ℕ) → List ℕ
firsts n seen [] = seen
firsts n seen (x ∷ xs) =
    choose (is_slip x && (not (has (segment_of x) seen) && ltb (length seen) n)) (firsts n (segment_of x ∷ seen) xs) (firsts n seen xs)

-- what a string of the series is answered: 13 where it is no slip, 14 where its segment is not among these, else it is accepted
unfoldable pub answer_by : List ℕ → List ℕ → Outcome Unit
answer_by segments x = choose (is_slip x) (choose (has (segment_of x) segments) (accepted tt) (refused 14)) (refused 13)

-- ---- what holds after a series from an empty board, whatever bytes were lent for it, under any rule

abbrev pub empty : List ℕ → Board
empty bytes = record { bytes = bytes; count = 0 }

pub record After (rule : Rule) (bytes : List ℕ) (xs : List (List ℕ)) : Type 0 where
  -- the board is one that is not refused
  pub good : Good (ran rule (empty bytes) xs)
  -- the listed segments are the first 512 different ones of the slips
  pub listed-are : (g : ℕ) → is_listed g (listed (ran rule (empty bytes) xs)) ≡ has g (firsts 512 [] xs)
  -- each string is answered by them: 14 exactly where it is a slip of any other segment. So of one segment's slips all are accepted or none
  pub answered : answers rule (empty bytes) xs ≡ map (answer_by (firsts 512 [] xs)) xs
  -- for each segment the board shows the slip that the rule leaves from its own series, refused ones set aside
  pub shows : (g : ℕ) → shown g (listed (ran rule (empty bytes) xs)) ≡ left rule none (those (is_of g) (admitted rule (empty bytes) xs))
  -- which are all its slips where it is listed
  pub shows-all : (g : ℕ) → shown g (listed (ran rule (empty bytes) xs))
      ≡ choose (has g (firsts 512 [] xs)) (left rule none (those (λ x. is_slip x && is_of g x) xs)) none

-- ---- what is left of a segment's slips where a rule orders them

-- the first of the best: it would replace every one ahead of it, and none behind it would replace it
pub record FirstOfBest (rule : Rule) (xs : List (List ℕ)) (l : List ℕ) : Type 0 where
  pub ahead : List (List ℕ)
  pub behind : List (List ℕ)
  pub stands : xs ≡ ahead ++ (l ∷ behind)
  pub above : some_of (λ y. not (rule (taken y) (taken l))) ahead ≡ false
  pub unbeaten : some_of (λ y. rule (taken l) (taken y)) behind ≡ false
