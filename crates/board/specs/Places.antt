-- Document 02, #105: a board's places. It has 512 of 44 bytes; its slips stand in as many of the first as its count says,
-- segments rising.
use Rattle.std.specs.Prelude.{ℕ, zero, suc, ◌*◌, Bool, true, ◌&&◌, List, [], ◌∷◌, eqb, leb, ltb, take, drop}
use Rattle.std.proofs.Math.Option.{Option, none, some}
use Rattle.util.specs.Choose.{choose}
use Rattle.util.specs.Some.{some_of}
use Rattle.slip.specs.Slips.{taken, is_slip}

-- the first n places
unfoldable pub places : ℕ → List ℕ → List (List ℕ)
places zero b = []
places (suc n) b = take 44 b ∷ places n (drop 44 b)

-- place i, from 0
abbrev pub place_at : List ℕ → ℕ → List ℕ
place_at b i = take 44 (drop (44 * i) b)

-- the segment's number in a slip's bytes
unfoldable pub segment_of : List ℕ → ℕ
segment_of s = (taken s).segment

-- each is a slip; the first one's segment is k or above, and every other's is above the one before
unfoldable pub rising : ℕ → List (List ℕ) → Bool
rising k [] = true
rising k (s ∷ ss) = is_slip s && (leb k (segment_of s) && rising (suc (segment_of s)) ss)

-- a board with its count that is not refused: at most 512 are listed, each a slip, segments rising
unfoldable pub good_board : List ℕ → ℕ → Bool
good_board b count = leb count 512 && rising 0 (places count b)

-- whether a segment is listed
unfoldable pub is_listed : ℕ → List (List ℕ) → Bool
is_listed g = some_of (λ s. eqb (segment_of s) g)

-- a segment's place: so many listed segments come before it
unfoldable pub before : ℕ → List (List ℕ) → ℕ
before g [] = 0
before g (s ∷ ss) = choose (ltb (segment_of s) g) (suc (before g ss)) 0

-- the slip that is shown for a segment, where it is listed
unfoldable pub shown : ℕ → List (List ℕ) → Option (List ℕ)
shown g [] = none
shown g (s ∷ ss) = choose (eqb (segment_of s) g) (some s) (shown g ss)
