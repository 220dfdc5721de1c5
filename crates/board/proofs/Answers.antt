-- What a put answers and leaves in each of its cases, and in the order of the refusals. Under any rule. Assumes nothing.
use Prim.Native.Nat.{ℕ, ◌+◌, ◌*◌, ◌<◌}
use mathlib.Core.Bool.{true, false, ◌&&◌, and-false}
use mathlib.Core.List.{List}
use mathlib.Core.Path.{◌≡◌, refl, sym, ap, ◌∙◌}
use native.Mathlib.Numerals.{add-one}
use borrow.Author.Tests.{eq-eqb, ne_eqb, lt-leb}
use lib.Dec.{leb}
use lib.ListN.{length}
use Rattle.util.specs.Choose.{choose}
use Rattle.util.specs.Refusal.{Outcome, refused, accepted}
use Rattle.slip.specs.Slips.{taken, is_slip}
use Rattle.board.specs.Places.{places, place_at, segment_of, rising, good_board, is_listed, before}
use Rattle.board.specs.Rules.{Rule}
use Rattle.board.specs.Putting.{replaced, inserted, put_on, count_on, putting, board_after, count_after}

-- the answer, the board and the count at exit
abbrev pub Leaves : Rule → List ℕ → ℕ → List ℕ → Outcome Unit → List ℕ → ℕ → Type 0
Leaves rule b count s o x n = (o ≡ putting b count s) × ((x ≡ board_after rule b count s) × (n ≡ count_after b count s))

-- ---- refused before anything is judged

module _ (rule : Rule) (b s : List ℕ) (count : ℕ) where
  pub other_length : (length b ≡ 44 * 512 → ⊥) → Leaves rule b count s (refused 4) b count
  other_length h =
      let e = ne_eqb (length b) (44 * 512) h in
      (simp e, (simp e, simp e))

  broken : length b ≡ 44 * 512 → (good_board b count && is_slip s) ≡ false → Leaves rule b count s (refused 13) b count
  broken size h =
      let e = eq-eqb (length b) (44 * 512) size in
      (simp (e, h), (simp (e, h), simp (e, h)))

  pub too_many : length b ≡ 44 * 512 → 512 < count → Leaves rule b count s (refused 13) b count
  unfolding good_board
  too_many size h = broken size (rw (lt-leb count 512 h) refl)

  pub not-rising : length b ≡ 44 * 512 → rising 0 (places count b) ≡ false → Leaves rule b count s (refused 13) b count
  unfolding good_board
  not-rising size h = broken size (rw (h, and-false (leb count 512)) refl)

  pub no-slip : length b ≡ 44 * 512 → is_slip s ≡ false → Leaves rule b count s (refused 13) b count
  no-slip size h = broken size (rw h (and-false (good_board b count)))

-- ---- a slip on a board, neither of them broken

module _ (rule : Rule) (b s : List ℕ) (count p g : ℕ) (size : length b ≡ 44 * 512) (good : good_board b count ≡ true)
    (slip : is_slip s ≡ true) (its : g ≡ segment_of s) (at : p ≡ before g (places count b)) where
  there : p ≡ before (segment_of s) (places count b)
  there = at ∙ ap (λ (h : ℕ). before h (places count b)) its

  pub judged : (x : List ℕ) → is_listed g (places count b) ≡ true → x ≡ choose (rule (taken (place_at b p)) (taken s)) (replaced b p s) b
      → Leaves rule b count s (accepted tt) x count
  unfolding put_on count_on
  judged x listed e =
      let long = eq-eqb (length b) (44 * 512) size in
      let is : is_listed (segment_of s) (places count b) ≡ true = ap (λ (h : ℕ). is_listed h (places count b)) (sym its) ∙ listed in (
        simp (long, good, slip, is),
        (
          e ∙ ap (λ (q : ℕ). choose (rule (taken (place_at b q)) (taken s)) (replaced b q s) b) there ∙ simp (long, good, slip, is),
          simp (long, good, slip, is),
        ),
      )

  pub no_room : is_listed g (places count b) ≡ false → count ≡ 512 → Leaves rule b count s (refused 14) b count
  no_room unlisted e =
      let long = eq-eqb (length b) (44 * 512) size in
      let full = eq-eqb count 512 e in
      let is : is_listed (segment_of s) (places count b) ≡ false = ap (λ (h : ℕ). is_listed h (places count b)) (sym its) ∙ unlisted in
      (simp (long, good, slip, is, full), (simp (long, good, slip, is, full), simp (long, good, slip, is, full)))

  pub put-before : (x : List ℕ) → is_listed g (places count b) ≡ false → (count ≡ 512 → ⊥) → x ≡ inserted b count p s
      → Leaves rule b count s (accepted tt) x (count + 1)
  unfolding put_on count_on
  put-before x unlisted h e =
      let long = eq-eqb (length b) (44 * 512) size in
      let room = ne_eqb count 512 h in
      let is : is_listed (segment_of s) (places count b) ≡ false = ap (λ (h : ℕ). is_listed h (places count b)) (sym its) ∙ unlisted in (
        simp (long, good, slip, is, room),
        (
          e ∙ ap (λ (q : ℕ). inserted b count q s) there ∙ simp (long, good, slip, is, room),
          add-one count ∙ simp (long, good, slip, is, room),
        ),
      )
