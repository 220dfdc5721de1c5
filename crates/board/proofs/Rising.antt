-- Slips whose segments rise: what is known of the first, that a segment below them is not listed, and where one stands that is.
-- Assumes nothing.
use Prim.Native.Nat.{ℕ, suc, ◌≤◌, ◌<◌}
use mathlib.Core.Bool.{Bool, true, false, ◌&&◌, ◌||◌, and-eq-true_iff}
use mathlib.Core.List.{List, [], ◌∷◌}
use mathlib.Core.Option.{Option, none, some}
use mathlib.Core.Path.{◌≡◌, refl, sym, ap, ap₂, ◌∙◌}
use native.Mathlib.Omega.{arith}
use native.Mathlib.Nat.{le_refl}
use borrow.Author.Tests.{leb-true, le-leb, lt-ltb, le-ltb, ltb-true, ltb-false, eqb-true, eqb-false, eq-eqb, ne_eqb}
use lib.Dec.{eqb, leb, ltb, leb-suc-suc}
use lib.ListN.{length, get_or}
use Rattle.util.specs.Choose.{choose}
use Rattle.util.proofs.Choose.{chosen, not_chosen}
use Rattle.slip.specs.Slips.{is_slip}
use Rattle.board.specs.Places.{segment_of, rising, is_listed, before, shown}

-- what is known of the first of them
pub record First (k : ℕ) (s : List ℕ) (ss : List (List ℕ)) : Type 0 where
  pub slip : is_slip s ≡ true
  pub least : k ≤ segment_of s
  pub rest : rising (suc (segment_of s)) ss ≡ true

pub first : (k : ℕ) (s : List ℕ) (ss : List (List ℕ)) → rising k (s ∷ ss) ≡ true → First k s ss
unfolding rising
first k s ss e =
    let one = (and-eq-true_iff (is_slip s) (leb k (segment_of s) && rising (suc (segment_of s)) ss)).0 e in
    let two = (and-eq-true_iff (leb k (segment_of s)) (rising (suc (segment_of s)) ss)).0 one.1 in
    record { slip = one.0; least = leb-true k (segment_of s) two.0; rest = two.1 }

pub from_first : (k : ℕ) (s : List ℕ) (ss : List (List ℕ)) → First k s ss → rising k (s ∷ ss) ≡ true
unfolding rising
from_first k s ss f = rw (f.slip, le-leb k (segment_of s) f.least, f.rest) refl

-- they rise from any number on that the first one's segment is not below
pub rising-from : (j k : ℕ) (s : List ℕ) (ss : List (List ℕ)) → rising k (s ∷ ss) ≡ true → j ≤ segment_of s → rising j (s ∷ ss) ≡ true
rising-from j k s ss e l = let f = first k s ss e in from_first j s ss (record { slip = f.slip; least = l; rest = f.rest })

-- ---- the slip that is shown

pub shown-here : (h : ℕ) (s : List ℕ) (ss : List (List ℕ)) → segment_of s ≡ h → shown h (s ∷ ss) ≡ some s
unfolding shown
shown-here h s ss e = chosen (some s) (shown h ss) (eq-eqb (segment_of s) h e)

pub shown-further : (h : ℕ) (s : List ℕ) (ss : List (List ℕ)) → (segment_of s ≡ h → ⊥) → shown h (s ∷ ss) ≡ shown h ss
unfolding shown
shown-further h s ss e = not_chosen (some s) (shown h ss) (ne_eqb (segment_of s) h e)

-- a segment below them all is not shown
pub none_below : (g k : ℕ) (ss : List (List ℕ)) → g < k → rising k ss ≡ true → shown g ss ≡ none
unfolding shown
none_below g k [] l e = refl
none_below g k (s ∷ ss) l e =
    let f = first k s ss e in
    shown-further g s ss (λ q. absurd (omega (arith, q, f.least)))
    ∙ none_below g (suc (segment_of s)) ss (omega (arith, f.least)) f.rest

-- a segment is listed where one is shown
abbrev pub is_some : Option (List ℕ) → Bool
is_some none = false
is_some (some s) = true

pub listed-shown : (g : ℕ) (ss : List (List ℕ)) → is_listed g ss ≡ is_some (shown g ss)
unfolding is_listed shown
listed-shown g [] = refl
listed-shown g (s ∷ ss) = by (eqb (segment_of s) g) (listed-shown g ss)
  where
    by : (t : Bool) → is_listed g ss ≡ is_some (shown g ss) → (t || is_listed g ss) ≡ is_some (choose t (some s) (shown g ss))
    by true rest = refl
    by false rest = rest

pub listed_here : (h : ℕ) (s : List ℕ) (ss : List (List ℕ)) → segment_of s ≡ h → is_listed h (s ∷ ss) ≡ true
listed_here h s ss e = listed-shown h (s ∷ ss) ∙ ap is_some (shown-here h s ss e)

pub listed-further : (h : ℕ) (s : List ℕ) (ss : List (List ℕ)) → (segment_of s ≡ h → ⊥) → is_listed h (s ∷ ss) ≡ is_listed h ss
listed-further h s ss e = listed-shown h (s ∷ ss) ∙ ap is_some (shown-further h s ss e) ∙ sym (listed-shown h ss)

pub unlisted-below : (g k : ℕ) (ss : List (List ℕ)) → g < k → rising k ss ≡ true → is_listed g ss ≡ false
unlisted-below g k ss l e = listed-shown g ss ∙ ap is_some (none_below g k ss l e)

-- ---- three ways in which a segment and a slip's can lie

pub data Lies (g : ℕ) (s : List ℕ) : Type 0 where
  after : segment_of s < g → Lies g s
  same : segment_of s ≡ g → Lies g s
  ahead : g < segment_of s → Lies g s

pub lies : (g : ℕ) (s : List ℕ) → Lies g s
lies g s = by (ltb (segment_of s) g) (eqb (segment_of s) g) refl refl
  where
    by : (t u : Bool) → ltb (segment_of s) g ≡ t → eqb (segment_of s) g ≡ u → Lies g s
    by true u p q = after (ltb-true (segment_of s) g p)
    by false true p q = same (eqb-true (segment_of s) g q)
    by false false p q =
        let apart = eqb-false (segment_of s) g q in
        ahead (omega (arith, ltb-false (segment_of s) g p, apart))

-- ---- a segment's place

pub before-after : (g : ℕ) (s : List ℕ) (ss : List (List ℕ)) → segment_of s < g → before g (s ∷ ss) ≡ suc (before g ss)
unfolding before
before-after g s ss l = chosen (suc (before g ss)) 0 (lt-ltb (segment_of s) g l)

pub before-first : (g : ℕ) (s : List ℕ) (ss : List (List ℕ)) → g ≤ segment_of s → before g (s ∷ ss) ≡ 0
unfolding before
before-first g s ss l = not_chosen (suc (before g ss)) 0 (le-ltb (segment_of s) g l)

-- no further than the last
pub before-le : (g : ℕ) (ss : List (List ℕ)) → before g ss ≤ length ss
unfolding before
before-le g [] = le_refl 0
before-le g (s ∷ ss) = by (lies g s) (before-le g ss)
  where
    by : Lies g s → before g ss ≤ length ss → before g (s ∷ ss) ≤ suc (length ss)
    by (after l) rest = omega (arith, before-after g s ss l)
    by (same e) rest = omega (arith, before-first g s ss (omega (arith, e)))
    by (ahead l) rest = omega (arith, before-first g s ss (omega arith))

-- a segment is listed exactly where it stands at its place
abbrev pub stands_at : ℕ → List (List ℕ) → ℕ → Bool
stands_at g ss p = ltb p (length ss) && eqb (segment_of (get_or ss p [])) g

pub at_place : (g k : ℕ) (ss : List (List ℕ)) → rising k ss ≡ true → is_listed g ss ≡ stands_at g ss (before g ss)
unfolding is_listed before
at_place g k [] e = refl
at_place g k (s ∷ ss) e = by (lies g s) (at_place g (suc (segment_of s)) ss (first k s ss e).rest)
  where
    there : ltb 0 (suc (length ss)) ≡ true
    there = lt-ltb 0 (suc (length ss)) (omega arith)

    by : Lies g s → is_listed g ss ≡ stands_at g ss (before g ss) → is_listed g (s ∷ ss) ≡ stands_at g (s ∷ ss) (before g (s ∷ ss))
    by (after l) rest =
        listed-further g s ss (λ q. absurd (omega (arith, q)))
        ∙ rest
        ∙ ap (λ (t : Bool). t && eqb (segment_of (get_or ss (before g ss) [])) g) (sym (leb-suc-suc (suc (before g ss)) (length ss)))
        ∙ ap (stands_at g (s ∷ ss)) (sym (before-after g s ss l))
    by (same q) rest =
        listed_here g s ss q
        ∙ sym (ap₂ ◌&&◌ there (eq-eqb (segment_of s) g q))
        ∙ ap (stands_at g (s ∷ ss)) (sym (before-first g s ss (omega (arith, q))))
    by (ahead l) rest =
        listed-further g s ss (λ q. absurd (omega (arith, q)))
        ∙ unlisted-below g (suc (segment_of s)) ss (omega arith) (first k s ss e).rest
        ∙ sym (ap₂ ◌&&◌ there (ne_eqb (segment_of s) g (λ q. absurd (omega (arith, q)))))
        ∙ ap (stands_at g (s ∷ ss)) (sym (before-first g s ss (omega arith)))
