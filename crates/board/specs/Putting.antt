-- Document 02, #105: a slip put on a board, with the refusals; on bytes. All but `board_after` and what it stands on is the same under
-- every rule.
use Rattle.std.specs.Prelude.{ℕ, suc, ◌-◌, ◌*◌, not, ◌&&◌, List, [], ◌∷◌, ◌++◌, eqb, length, take, drop}
use Rattle.util.specs.Choose.{choose}
use Rattle.util.specs.Refusal.{Cause, Outcome, outcome, afterwards}
use Rattle.slip.specs.Slips.{taken, is_slip}
use Rattle.board.specs.Places.{places, place_at, segment_of, good_board, is_listed, before}
use Rattle.board.specs.Rules.{Rule}

-- 4 for a board of another length than 512 places; 13 for a broken board or a broken slip; 14 for a slip of an unlisted segment
-- where 512 are listed
abbrev pub causes : List ℕ → ℕ → List ℕ → List Cause
causes b count s =
    (record { holds = not (eqb (length b) (44 * 512)); number = 4 })
    ∷ (record { holds = not (good_board b count && is_slip s); number = 13 })
    ∷ (record { holds = not (is_listed (segment_of s) (places count b)) && eqb count 512; number = 14 })
    ∷ []

abbrev pub putting : List ℕ → ℕ → List ℕ → Outcome Unit
putting b count s = outcome (causes b count s) tt

-- one place replaced: place p has the slip
abbrev pub replaced : List ℕ → ℕ → List ℕ → List ℕ
replaced b p s = take (44 * p) b ++ (s ++ drop (44 * suc p) b)

-- one inserted: place p has the slip, and those that stood from p up to the count are one place further
abbrev pub inserted : List ℕ → ℕ → ℕ → List ℕ → List ℕ
inserted b count p s = take (44 * p) b ++ (s ++ (take (44 * (count - p)) (drop (44 * p) b) ++ drop (44 * suc count) b))

-- at its segment's place a slip is judged, where the segment is listed, and else inserted
unfoldable pub put_on : Rule → List ℕ → ℕ → List ℕ → List ℕ
put_on rule b count s =
    let p = before (segment_of s) (places count b) in
    choose (is_listed (segment_of s) (places count b))
    (choose (rule (taken (place_at b p)) (taken s)) (replaced b p s) b)
    (inserted b count p s)

unfoldable pub count_on : List ℕ → ℕ → List ℕ → ℕ
count_on b count s = choose (is_listed (segment_of s) (places count b)) count (suc count)

-- the board and the count at exit
abbrev pub board_after : Rule → List ℕ → ℕ → List ℕ → List ℕ
board_after rule b count s = afterwards (putting b count s) b (put_on rule b count s)

abbrev pub count_after : List ℕ → ℕ → List ℕ → ℕ
count_after b count s = afterwards (putting b count s) count (count_on b count s)
