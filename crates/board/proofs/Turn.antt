-- One put on a board that is not refused: the slip is broken, or the board is full, and nothing is changed; or its slips are what
-- `put_in` makes of them. Under any rule. Assumes nothing.
use Prim.Native.Nat.{ℕ, suc, ◌*◌, ◌≤◌, ◌<◌, zero-le}
use mathlib.Core.Bool.{Bool, true, false, true≢false, and-eq-true_iff}
use mathlib.Core.List.{List, []}
use mathlib.Core.Path.{◌≡◌, refl, sym, ap, subst, ◌∙◌}
use native.Mathlib.Omega.{arith}
use borrow.Author.Tests.{leb-true, le-leb, ltb-true, eqb-true, eqb-false, eq-eqb}
use lib.Dec.{eqb, leb, ltb}
use lib.ListN.{length, get_or, set}
use Rattle.util.specs.Choose.{choose}
use Rattle.util.specs.Refusal.{Outcome, refused, accepted, afterwards}
use Rattle.util.proofs.Choose.{chosen, not_chosen}
use Rattle.slip.specs.Slips.{is_slip, taken}
use Rattle.slip.proofs.Slips.{length-slip}
use Rattle.board.specs.Places.{places, place_at, segment_of, rising, good_board, is_listed, before}
use Rattle.board.specs.Rules.{Rule}
use Rattle.board.specs.Putting.{replaced, inserted, put_on, count_on}
use Rattle.board.specs.Series.{Board, Good, listed, answer_to, put}
use Rattle.board.proofs.Rising.{before-le, at_place}
use Rattle.board.proofs.Listing.{put_in, put_at, rising-put, put-at}
use Rattle.board.proofs.Places.{length-places, nth-place, places-replaced, places-inserted, length-replaced, length_inserted}

-- what is known of a board that is not refused
pub most : (bytes : List ℕ) (count : ℕ) → good_board bytes count ≡ true → count ≤ 512
unfolding good_board
most bytes count e = leb-true count 512 ((and-eq-true_iff (leb count 512) (rising 0 (places count bytes))).0 e).0

pub rises : (bytes : List ℕ) (count : ℕ) → good_board bytes count ≡ true → rising 0 (places count bytes) ≡ true
unfolding good_board
rises bytes count e = ((and-eq-true_iff (leb count 512) (rising 0 (places count bytes))).0 e).1

pub good-board : (bytes : List ℕ) (count : ℕ) → count ≤ 512 → rising 0 (places count bytes) ≡ true → good_board bytes count ≡ true
unfolding good_board
good-board bytes count l e = rw (le-leb count 512 l, e) refl

-- ---- its bytes

-- a listed segment's place is one of the listed
pub place-listed : (g count : ℕ) (b : List ℕ) → rising 0 (places count b) ≡ true → is_listed g (places count b) ≡ true
    → before g (places count b) < count
place-listed g count b r e =
    let ss = places count b in
    let at = (and-eq-true_iff (ltb (before g ss) (length ss)) (eqb (segment_of (get_or ss (before g ss) [])) g)).0
    (sym (at_place g 0 ss r) ∙ e) in
    omega (arith, ltb-true (before g ss) (length ss) at.0, length-places count b)

pub place-within : (g count : ℕ) (b : List ℕ) → before g (places count b) ≤ count
place-within g count b = omega (arith, before-le g (places count b), length-places count b)

module _ (rule : Rule) (b s : List ℕ) (count : ℕ) (room : 44 * count ≤ length b) (slip : length s ≡ 44)
    (r : rising 0 (places count b) ≡ true) where
  abbrev p : ℕ
  p = before (segment_of s) (places count b)

  -- the bytes, where the segment is listed or not
  abbrev bytes : Bool → List ℕ
  bytes is-listed = choose is-listed (choose (rule (taken (place_at b p)) (taken s)) (replaced b p s) b) (inserted b count p s)

  -- the slips on the board after a put
  pub listed-put : places (count_on b count s) (put_on rule b count s) ≡ put_in rule s (places count b)
  unfolding put_on count_on
  listed-put = by (is_listed (segment_of s) (places count b)) refl ∙ put-at rule s 0 (places count b) r
    where
      judged : (u : Bool) → p < count → places count (choose u (replaced b p s) b) ≡ choose u (set (places count b) p s) (places count b)
      judged true l = places-replaced b s count p room slip l
      judged false l = refl

      by : (u : Bool) → is_listed (segment_of s) (places count b) ≡ u
          → places (count_on b count s) (put_on rule b count s) ≡ put_at rule s (places count b) p (is_listed (segment_of s) (places count b))
      by true e =
          let l = place-listed (segment_of s) count b r e in
          let there : place_at b p ≡ get_or (places count b) p [] = sym (nth-place count p b l) in
          ap (λ (u : Bool). places (choose u count (suc count)) (bytes u)) e
          ∙ judged (rule (taken (place_at b p)) (taken s)) l
          ∙ ap (λ (x : List ℕ). choose (rule (taken x) (taken s)) (set (places count b) p s) (places count b)) there
          ∙ ap (put_at rule s (places count b) p) (sym e)
      by false e =
          ap (λ (u : Bool). places (choose u count (suc count)) (bytes u)) e
          ∙ places-inserted b s count p room slip (place-within (segment_of s) count b)
          ∙ ap (put_at rule s (places count b) p) (sym e)

  pub length-put : (is_listed (segment_of s) (places count b) ≡ false → 44 * suc count ≤ length b) → length (put_on rule b count s) ≡ length b
  unfolding put_on
  length-put h = by (is_listed (segment_of s) (places count b)) refl
    where
      judged : (u : Bool) → p < count → length (choose u (replaced b p s) b) ≡ length b
      judged true l = length-replaced b s p (omega arith) slip
      judged false l = refl

      by : (u : Bool) → is_listed (segment_of s) (places count b) ≡ u → length (put_on rule b count s) ≡ length b
      by true e =
          ap (λ (u : Bool). length (bytes u)) e
          ∙ judged (rule (taken (place_at b p)) (taken s)) (place-listed (segment_of s) count b r e)
      by false e =
          ap (λ (u : Bool). length (bytes u)) e
          ∙ length_inserted b s count p (h e) (place-within (segment_of s) count b) slip

-- ---- a turn of a series

pub record Done (rule : Rule) (b : Board) (s : List ℕ) : Type 0 where
  pub answer : answer_to b s ≡ accepted tt
  pub good : Good (put rule b s)
  pub slips : listed (put rule b s) ≡ put_in rule s (listed b)
  pub count : (put rule b s).count ≡ choose (is_listed (segment_of s) (listed b)) b.count (suc b.count)

pub data Turn (rule : Rule) (b : Board) (s : List ℕ) : Type 0 where
  broken : is_slip s ≡ false → answer_to b s ≡ refused 13 → put rule b s ≡ b → Turn rule b s
  full : is_slip s ≡ true → is_listed (segment_of s) (listed b) ≡ false → b.count ≡ 512 → answer_to b s ≡ refused 14 → put rule b s ≡ b
      → Turn rule b s
  again : is_slip s ≡ true → is_listed (segment_of s) (listed b) ≡ true → Done rule b s → Turn rule b s
  new : is_slip s ≡ true → is_listed (segment_of s) (listed b) ≡ false → b.count < 512 → Done rule b s → Turn rule b s

module _ (rule : Rule) (b : Board) (s : List ℕ) (g : Good b) where
  -- the board by the answer
  left_by : Outcome Unit → Board
  left_by o =
      record {
        bytes = afterwards o b.bytes (put_on rule b.bytes b.count s);
        count = afterwards o b.count (count_on b.bytes b.count s);
      }

  unchanged : (k : ℕ) → answer_to b s ≡ refused k → put rule b s ≡ b
  unfolding left_by
  unchanged k e = ap left_by e

  changed : answer_to b s ≡ accepted tt → put rule b s ≡ left_by (accepted tt)
  unfolding left_by
  changed e = ap left_by e

  count-put : count_on b.bytes b.count s ≡ choose (is_listed (segment_of s) (listed b)) b.count (suc b.count)
  unfolding count_on
  count-put = refl

  done : is_slip s ≡ true → (is_listed (segment_of s) (listed b) ≡ false → b.count < 512) → answer_to b s ≡ accepted tt → Done rule b s
  unfolding left_by
  done e room a =
      let r = rises b.bytes b.count g.good in
      let long = length-slip s e in
      let few = most b.bytes b.count g.good in
      let within : 44 * b.count ≤ length b.bytes = omega (arith, g.size, few) in
      let slips = listed-put rule b.bytes s b.count within long r in
      let size = length-put rule b.bytes s b.count within long r (λ f. omega (arith, g.size, room f)) in
      let same = changed a in
      let good : Good (left_by (accepted tt)) = record {
        size = size ∙ g.size;
        good =
            good-board _ _ (counted (is_listed (segment_of s) (listed b)) refl few)
            (ap (rising 0) slips ∙ rising-put rule s 0 (listed b) e zero-le r);
      } in
      record {
        answer = a;
        good = subst Good (sym same) good;
        slips = ap listed same ∙ slips;
        count = ap (λ (c : Board). c.count) same ∙ count-put;
      }
    where
      counted : (u : Bool) → is_listed (segment_of s) (listed b) ≡ u → b.count ≤ 512 → count_on b.bytes b.count s ≤ 512
      counted true f few = omega (arith, count-put ∙ chosen b.count (suc b.count) f)
      counted false f few = omega (arith, count-put ∙ not_chosen b.count (suc b.count) f, room f)

  broken-answer : is_slip s ≡ false → answer_to b s ≡ refused 13
  broken-answer e = rw (eq-eqb (length b.bytes) (44 * 512) g.size, g.good, e) refl

  full-answer : is_slip s ≡ true → is_listed (segment_of s) (listed b) ≡ false → eqb b.count 512 ≡ true → answer_to b s ≡ refused 14
  full-answer e f q = rw (eq-eqb (length b.bytes) (44 * 512) g.size, g.good, e, f, q) refl

  again-answer : is_slip s ≡ true → is_listed (segment_of s) (listed b) ≡ true → answer_to b s ≡ accepted tt
  again-answer e f = rw (eq-eqb (length b.bytes) (44 * 512) g.size, g.good, e, f) refl

  new-answer : is_slip s ≡ true → is_listed (segment_of s) (listed b) ≡ false → eqb b.count 512 ≡ false → answer_to b s ≡ accepted tt
  new-answer e f q = rw (eq-eqb (length b.bytes) (44 * 512) g.size, g.good, e, f, q) refl

  pub turn : Turn rule b s
  turn = by (is_slip s) (is_listed (segment_of s) (listed b)) (eqb b.count 512) refl refl refl
    where
      by : (t u v : Bool) → is_slip s ≡ t → is_listed (segment_of s) (listed b) ≡ u → eqb b.count 512 ≡ v → Turn rule b s
      by false u v e f q = broken e (broken-answer e) (unchanged 13 (broken-answer e))
      by true true v e f q = again e f (done e (λ n. absurd (true≢false (sym f ∙ n))) (again-answer e f))
      by true false true e f q = full e f (eqb-true b.count 512 q) (full-answer e f q) (unchanged 14 (full-answer e f q))
      by true false false e f q =
          let apart = eqb-false b.count 512 q in
          let room : b.count < 512 = omega (arith, most b.bytes b.count g.good, apart) in
          new e f room (done e (λ n. room) (new-answer e f q))
