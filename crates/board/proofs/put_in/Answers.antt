-- `board::put_in` meets its contract: each return by the tests that led there. Assumes nothing.
use Prim.Native.Nat.{ℕ, suc, ◌*◌, ◌≤◌}
use mathlib.Core.Bool.{true}
use mathlib.Core.List.{List}
use mathlib.Core.Path.{◌≡◌, sym, ◌∙◌}
use native.Mathlib.Omega.{arith}
use lib.ListN.{length}
use Rattle.slip.proofs.Slips.{length-slip}
use Rattle.board.specs.Places.{places, good_board, is_listed, before}
use Rattle.board.specs.Rules.{reading_first}
use Rattle.board.proofs.Turn.{most, rises, place-listed, place-within}
use Rattle.board.proofs.Answers.{judged, put-before}
use Rattle.board.proofs.put_in.Goals as goal

-- the places that are written lie on the board
module _ (b : List ℕ) (count p g : ℕ) (size : length b ≡ 44 * 512) (good : good_board b count ≡ true)
    (at : p ≡ before g (places count b)) where
  few : count ≤ 512
  few = most b count good

  listed-within : is_listed g (places count b) ≡ true → 44 * suc p ≤ length b
  listed-within e = omega (arith, few, size, at, place-listed g count b (rises b count good) e)

  within : p ≤ count
  within = omega (arith, at, place-within g count b)

pub segment_of-segment-requires : goal.segment_of-segment-requires
segment_of-segment-requires c = length-slip _ c.requires.1.1

pub place_for-place-requires : goal.place_for-place-requires
place_for-place-requires c =
    omega (arith, c.requires.0, most _ _ c.requires.1.0)

pub is_at-requires : goal.is_at-requires
is_at-requires c =
    (omega (arith, c.requires.0, most _ _ c.requires.1.0), (rises _ _ c.requires.1.0, c.place_for-place.ensures))

pub judge-requires : goal.judge-requires
judge-requires c =
    let a = c.args in (
      listed-within a.board.now a.count.now _ _ c.requires.0 c.requires.1.0 c.place_for-place.ensures
          (sym c.is_at.ensures ∙ c.if-is_at.true),
      length-slip _ c.requires.1.1,
    )

pub returns-then-is_at : goal.returns-then-is_at
returns-then-is_at c =
    let a = c.args in
    let leaves = judged reading_first a.board.now a.slip.now a.count.now _ _ c.requires.0 c.requires.1.0 c.requires.1.1
    c.segment_of-segment.ensures.number c.place_for-place.ensures _ (sym c.is_at.ensures ∙ c.if-is_at.true) c.judge.ensures in
    record { answer = leaves.0; lent = leaves.1.0; counted = leaves.1.1 }

pub insert_at-requires : goal.insert_at-requires
insert_at-requires c =
    let a = c.args in
    let few = most _ _ c.requires.1.0 in (
      omega (arith, c.requires.0, few, c.if-listed-eq512.false),
      (
        within a.board.now a.count.now _ _ c.requires.0 c.requires.1.0 c.place_for-place.ensures,
        length-slip _ c.requires.1.1,
      ),
    )

pub overflow_add-count : goal.overflow_add-count
overflow_add-count c =
    omega (arith, most _ _ c.requires.1.0)

pub returns : goal.returns
returns c =
    let a = c.args in
    let leaves = put-before reading_first a.board.now a.slip.now a.count.now _ _ c.requires.0 c.requires.1.0 c.requires.1.1
    c.segment_of-segment.ensures.number c.place_for-place.ensures _ (sym c.is_at.ensures ∙ c.if-is_at.false) c.if-listed-eq512.false c.insert_at.ensures in
    record { answer = leaves.0; lent = leaves.1.0; counted = leaves.1.1 }
