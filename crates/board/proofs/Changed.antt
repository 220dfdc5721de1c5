-- The two orders of the yard's rules differ in two judgements and no others: by all nine ways in which two starts and two readings can be
-- to each other. So a segment shows another slip only where two of its slips are at odds. Assumes nothing.
use Prim.Native.Nat.{ℕ, ◌*◌}
use mathlib.Core.Bool.{Bool, true, false, not, ◌&&◌}
use mathlib.Core.List.{List, [], ◌∷◌}
use mathlib.Core.Option.{Option, none, some}
use mathlib.Core.Path.{◌≡◌, refl, sym, ap, ◌∙◌}
use native.Mathlib.Omega.{arith}
use borrow.Author.Tests.{eqb-true, eqb-false, ltb-true, ltb-false, lt-ltb, le-ltb}
use lib.Dec.{eqb, ltb}
use lib.Ieee.{Float}
use lib.ListN.{length}
use Rattle.util.specs.Choose.{choose}
use Rattle.util.specs.Some.{some_of}
use Rattle.util.proofs.Choose.{by-case}
use Rattle.util.proofs.Some.{neither}
use Rattle.slip.specs.Slips.{taken, is_slip}
use Rattle.slip.specs.declared.Fields.{Fields}
use Rattle.board.specs.Places.{shown}
use Rattle.board.specs.Rules.{rank_of, reading_first}
use Rattle.board.specs.Changed.{start_first, later_worse, earlier_better, Changed, at_odds, some_at_odds}
use Rattle.board.specs.Series.{listed, ran, those, is_of, left, has, firsts, empty}
use Rattle.board.proofs.Series.{from_empty}

-- ---- one judgement

-- how two numbers are to each other, by the tests of them
data Tests (a b : ℕ) : Type 0 where
  less : eqb a b ≡ false → ltb a b ≡ true → ltb b a ≡ false → Tests a b
  same : eqb a b ≡ true → ltb a b ≡ false → ltb b a ≡ false → Tests a b
  more : eqb a b ≡ false → ltb a b ≡ false → ltb b a ≡ true → Tests a b

tests : (a b : ℕ) → Tests a b
tests a b = by (eqb a b) (ltb a b) refl refl
  where
    by : (t u : Bool) → eqb a b ≡ t → ltb a b ≡ u → Tests a b
    by true u e f =
        let q = eqb-true a b e in
        same e (le-ltb a b (omega (arith, q))) (le-ltb b a (omega (arith, q)))
    by false true e f =
        let l = ltb-true a b f in
        less e f (le-ltb b a (omega (arith, l)))
    by false false e f =
        let apart = eqb-false a b e in
        let l = ltb-false a b f in
        more e f (lt-ltb b a (omega (arith, l, apart)))

-- where neither answer differs both are one
alike : (old new : Bool) → (old && not new) ≡ false → (not old && new) ≡ false → new ≡ old
alike true true e f = refl
alike true false e f = sym e
alike false true e f = f
alike false false e f = refl

pub changed : (was new : Fields) → Changed was new
changed was new = by (tests was.start new.start) (tests (rank_of new) (rank_of was))
  where
    both : (start_first was new && not (reading_first was new)) ≡ later_worse was new
        → (not (start_first was new) && reading_first was new) ≡ earlier_better was new → Changed was new
    both lost won =
        record {
          no_longer = lost;
          now-does = won;
          as_before = λ p q. alike (start_first was new) (reading_first was new) (lost ∙ p) (won ∙ q);
        }

    -- all nine: the new start after the listed one, at it, before it; the new reading better, equal, worse
    by : Tests was.start new.start → Tests (rank_of new) (rank_of was) → Changed was new
    by (less e f g) (less p q r) = both (simp (e, f, p, q, r)) (simp (e, f, g, p, q))
    by (less e f g) (same p q r) = both (simp (e, f, p, q, r)) (simp (e, f, g, p, q))
    by (less e f g) (more p q r) = both (simp (e, f, p, q, r)) (simp (e, f, g, p, q))
    by (same e f g) (less p q r) = both (simp (e, f, p, q, r)) (simp (e, f, g, p, q))
    by (same e f g) (same p q r) = both (simp (e, f, p, q, r)) (simp (e, f, g, p, q))
    by (same e f g) (more p q r) = both (simp (e, f, p, q, r)) (simp (e, f, g, p, q))
    by (more e f g) (less p q r) = both (simp (e, f, p, q, r)) (simp (e, f, g, p, q))
    by (more e f g) (same p q r) = both (simp (e, f, p, q, r)) (simp (e, f, g, p, q))
    by (more e f g) (more p q r) = both (simp (e, f, p, q, r)) (simp (e, f, g, p, q))

-- both are met, whatever the scores: a Sure in pass 1 that starts at sample 1, and an Open that starts at sample 2
abbrev sure-at-1 : Float → Fields
sure-at-1 x = record { mode = 0; kind = 0; word = 0; outcome = 0; pass = 1; score = x; start = 1; segment = 7 }

abbrev open-at-2 : Float → Fields
open-at-2 x = record { mode = 0; kind = 0; word = 0; outcome = 2; pass = 0; score = x; start = 2; segment = 7 }

pub later-worse-met : (x y : Float) → (start_first (sure-at-1 x) (open-at-2 y) ≡ true) × (reading_first (sure-at-1 x) (open-at-2 y) ≡ false)
later-worse-met x y = (refl, refl)

pub earlier-better-met : (x y : Float) → (start_first (open-at-2 x) (sure-at-1 y) ≡ false) × (reading_first (open-at-2 x) (sure-at-1 y) ≡ true)
earlier-better-met x y = (refl, refl)

-- ---- a series

-- after a slip that is at odds with none of the series, of which no two are
after_one : (a : List ℕ) (xs : List (List ℕ)) → some_of (at_odds a) xs ≡ false → some_at_odds xs ≡ false
    → left reading_first (some a) xs ≡ left start_first (some a) xs
unfolding left some_at_odds
after_one a [] p q = refl
after_one a (x ∷ xs) p q =
    let now = neither (at_odds a x) (some_of (at_odds a) xs) p in
    let rest = neither (some_of (at_odds x) xs) (some_at_odds xs) q in
    let apart = neither (later_worse (taken a) (taken x)) (later_worse (taken x) (taken a)) now.0 in
    ap (λ (t : Bool). left reading_first (some (choose t x a)) xs) ((changed (taken a) (taken x)).as_before apart.0 apart.1)
    ∙ by-case (λ (y : List ℕ). left reading_first (some y) xs ≡ left start_first (some y) xs) (start_first (taken a) (taken x)) x a
    (λ t. after_one x xs rest.0 rest.1) (λ t. after_one a xs now.1 rest.1)

left-as-before : (xs : List (List ℕ)) → some_at_odds xs ≡ false → left reading_first none xs ≡ left start_first none xs
unfolding left some_at_odds
left-as-before [] p = refl
left-as-before (x ∷ xs) p =
    let rest = neither (some_of (at_odds x) xs) (some_at_odds xs) p in
    after_one x xs rest.0 rest.1

-- of a segment no two slips of which are at odds the board shows what it showed before
pub shown-as-before : (bytes : List ℕ) (xs : List (List ℕ)) → length bytes ≡ 44 * 512 → (g : ℕ)
    → some_at_odds (those (λ x. is_slip x && is_of g x) xs) ≡ false
    → shown g (listed (ran reading_first (empty bytes) xs)) ≡ shown g (listed (ran start_first (empty bytes) xs))
shown-as-before bytes xs size g p =
    (from_empty reading_first bytes xs size).shows-all g
    ∙ ap (λ (o : Option (List ℕ)). choose (has g (firsts 512 [] xs)) o none) (left-as-before (those (λ x. is_slip x && is_of g x) xs) p)
    ∙ sym ((from_empty start_first bytes xs size).shows-all g)
