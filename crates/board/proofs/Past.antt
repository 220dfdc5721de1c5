-- Places past the count: they are not read, and but for the one that a new segment fills they are not written. Under any rule.
-- Assumes nothing.
use Prim.Native.Nat.{ℕ, suc, ◌+◌, ◌-◌, ◌*◌, ◌≤◌, ◌<◌}
use mathlib.Core.Bool.{Bool, true, false, not, ◌&&◌, and-eq-true_iff}
use mathlib.Core.List.{List, ◌++◌, append_assoc}
use mathlib.Core.Path.{◌≡◌, refl, sym, ap, ap₂, ◌∙◌}
use native.Mathlib.Omega.{arith}
use borrow.Author.Tests.{eqb-false, not-false}
use lib.Dec.{eqb, leb}
use lib.ListN.{length, take, drop, length-append, length-drop}
use lib.Seq.{length-take-le, drop_at, drop-append-add, drop-drop}
use Rattle.util.specs.Choose.{choose}
use Rattle.util.specs.Refusal.{Outcome, refused, accepted, afterwards}
use Rattle.util.proofs.Choose.{past-cause}
use Rattle.slip.specs.Slips.{taken, is_slip}
use Rattle.slip.proofs.Slips.{length-slip}
use Rattle.board.specs.Places.{places, place_at, segment_of, rising, good_board, is_listed, before}
use Rattle.board.specs.Rules.{Rule}
use Rattle.board.specs.Putting.{replaced, inserted, put_on, count_on, putting, board_after, count_after}
use Rattle.board.proofs.Listing.{put_in}
use Rattle.board.proofs.Places.{of-take}
use Rattle.board.proofs.Turn.{rises, place-listed, place-within, listed-put}

module _ (rule : Rule) (s : List ℕ) (count : ℕ) (few : count ≤ 512) where
  -- what an accepted put stands on
  record Taken (b : List ℕ) : Type 0 where
    good : good_board b count ≡ true
    slip : is_slip s ≡ true
    room : is_listed (segment_of s) (places count b) ≡ false → count < 512

  taken_in : (b : List ℕ) → putting b count s ≡ accepted tt → Taken b
  taken_in b e =
      let first = past-cause (not (eqb (length b) (44 * 512))) 4 _ tt e in
      let second = past-cause (not (good_board b count && is_slip s)) 13 _ tt first.1 in
      let both = (and-eq-true_iff (good_board b count) (is_slip s)).0 (not-false (good_board b count && is_slip s) second.0) in
      let third = past-cause (not (is_listed (segment_of s) (places count b)) && eqb count 512) 14 _ tt second.1 in
      record {
        good = both.0;
        slip = both.1;
        room = λ e. let apart = eqb-false count 512 (ap (λ (t : Bool). not t && eqb count 512) (sym e) ∙ third.0) in omega (arith, apart);
      }

  -- the slips that a put leaves, by its answer and those that were listed
  leaves : Outcome Unit → List (List ℕ) → List (List ℕ)
  leaves (refused k) ss = ss
  leaves (accepted a) ss = put_in rule s ss

  left : (b : List ℕ) → length b ≡ 44 * 512
      → places (count_after b count s) (board_after rule b count s) ≡ leaves (putting b count s) (places count b)
  unfolding leaves
  left b size = by (putting b count s) refl
    where
      by : (o : Outcome Unit) → putting b count s ≡ o
          → places (afterwards o count (count_on b count s)) (afterwards o b (put_on rule b count s)) ≡ leaves o (places count b)
      by (refused k) e = refl
      by (accepted a) e =
          let t = taken_in b e in
          listed-put rule b s count (omega (arith, size)) (length-slip s t.slip) (rises b count t.good)

  -- ---- not read: boards that differ only past the count get the same answer and list the same slips

  module _ (b c : List ℕ) (size : length b ≡ 44 * 512) (same_size : length c ≡ 44 * 512)
      (same : take (44 * count) b ≡ take (44 * count) c) where
    same-places : places count b ≡ places count c
    same-places = sym (of-take count b (omega (arith, size))) ∙ ap (places count) same ∙ of-take count c (omega (arith, same_size))

    pub same_answer : putting b count s ≡ putting c count s
    unfolding good_board
    same_answer =
        ap₂ (λ (n : ℕ) (ss : List (List ℕ)).
        choose (not (eqb n (44 * 512))) (refused 4)
        (choose (not ((leb count 512 && rising 0 ss) && is_slip s)) (refused 13)
        (choose (not (is_listed (segment_of s) ss) && eqb count 512) (refused 14) (accepted tt))))
        (size ∙ sym same_size) same-places

    pub same_count : count_after b count s ≡ count_after c count s
    unfolding count_on
    same_count =
        ap₂ (λ (o : Outcome Unit) (ss : List (List ℕ)). afterwards o count (choose (is_listed (segment_of s) ss) count (suc count)))
        same_answer same-places

    pub same-slips : places (count_after b count s) (board_after rule b count s) ≡ places (count_after c count s) (board_after rule c count s)
    same-slips = left b size ∙ ap₂ leaves same_answer same-places ∙ sym (left c same_size)

  -- ---- not written: past the count at exit every byte is as it was

  module _ (b : List ℕ) (size : length b ≡ 44 * 512) where
    past-replaced : (p : ℕ) → p < count → length s ≡ 44 → drop (44 * count) (replaced b p s) ≡ drop (44 * count) b
    past-replaced p l slip =
        let front = take (44 * p) b ++ s in
        let long : length front ≡ 44 * suc p =
        length-append (take (44 * p) b) s ∙ omega (arith, length-take-le (44 * p) b (omega (arith, size)), slip) in
        let m = 44 * (count - suc p) in
        let cut : 44 * count ≡ length front + m = omega (arith, long) in
        let back : 44 * suc p + m ≡ 44 * count = omega arith in
        ap₂ drop cut (sym (append_assoc (take (44 * p) b) s (drop (44 * suc p) b)))
        ∙ drop-append-add front (drop (44 * suc p) b) m
        ∙ drop-drop m (44 * suc p) b
        ∙ ap (λ (n : ℕ). drop n b) back

    past-inserted : (p : ℕ) → p ≤ count → count < 512 → length s ≡ 44
        → drop (44 * suc count) (inserted b count p s) ≡ drop (44 * suc count) b
    past-inserted p l room slip =
        let moved = take (44 * (count - p)) (drop (44 * p) b) in
        let front = take (44 * p) b ++ (s ++ moved) in
        let rest = drop (44 * suc count) b in
        let size-moved = length-take-le (44 * (count - p)) (drop (44 * p) b) (omega (arith, size, length-drop (44 * p) b)) in
        let long : length front ≡ 44 * suc count =
        length-append (take (44 * p) b) (s ++ moved)
        ∙ omega (arith, length-append s moved, length-take-le (44 * p) b (omega (arith, size)), size-moved, slip) in
        ap (drop (44 * suc count))
        (ap (λ (l : List ℕ). take (44 * p) b ++ l) (sym (append_assoc s moved rest)) ∙ sym (append_assoc (take (44 * p) b) (s ++ moved) rest))
        ∙ drop_at front rest (44 * suc count) long

    -- the slip's place, and the bytes where its segment is listed or not
    abbrev p : ℕ
    p = before (segment_of s) (places count b)

    abbrev bytes : Bool → List ℕ
    bytes is-listed = choose is-listed (choose (rule (taken (place_at b p)) (taken s)) (replaced b p s) b) (inserted b count p s)

    pub unwritten : drop (44 * count_after b count s) (board_after rule b count s) ≡ drop (44 * count_after b count s) b
    unfolding put_on count_on
    unwritten = by (putting b count s) refl
      where
        judged : (r : Bool) → p < count → length s ≡ 44 → drop (44 * count) (choose r (replaced b p s) b) ≡ drop (44 * count) b
        judged true l slip = past-replaced p l slip
        judged false l slip = refl

        put : (t : Bool) → is_listed (segment_of s) (places count b) ≡ t → (t ≡ false → count < 512) → rising 0 (places count b) ≡ true
            → length s ≡ 44 → drop (44 * choose t count (suc count)) (bytes t) ≡ drop (44 * choose t count (suc count)) b
        put true e room r slip = judged (rule (taken (place_at b p)) (taken s)) (place-listed (segment_of s) count b r e) slip
        put false e room r slip = past-inserted p (place-within (segment_of s) count b) (room refl) slip

        by : (o : Outcome Unit) → putting b count s ≡ o
            → drop (44 * afterwards o count (count_on b count s)) (afterwards o b (put_on rule b count s))
            ≡ drop (44 * afterwards o count (count_on b count s)) b
        by (refused k) e = refl
        by (accepted a) e =
            let t = taken_in b e in
            put (is_listed (segment_of s) (places count b)) refl t.room (rises b count t.good) (length-slip s t.slip)
