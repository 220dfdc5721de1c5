-- The yard's two rules, reading first, in document 02's words; that they order slips; and what the board shows by them after any series.
-- Assumes nothing.
use Prim.Native.Nat.{ℕ, ◌*◌, ◌≤◌, ◌<◌}
use mathlib.Core.Bool.{Bool, true, false, not, ◌&&◌, ◌||◌, true≢false}
use mathlib.Core.List.{List, [], ◌∷◌, ◌++◌}
use mathlib.Core.Option.{none, some}
use mathlib.Core.Path.{◌≡◌, refl, sym, ap, ap₂, subst, ◌∙◌}
use native.Mathlib.Nat.{le_refl}
use native.Mathlib.Omega.{arith}
use borrow.Author.Tests.{eqb-true, eqb-false, ltb-true, ltb-false, lt-ltb, le-ltb, eq-eqb, ne_eqb}
use lib.Dec.{eqb, ltb}
use lib.Ieee.{Float}
use lib.ListN.{length}
use Rattle.util.specs.Choose.{choose}
use Rattle.util.specs.Some.{some_of}
use Rattle.util.proofs.Choose.{chosen, not_chosen}
use Rattle.trellis.specs.Answer.{Sure, Likely, Kept, Open}
use Rattle.slip.specs.Slips.{taken, is_slip}
use Rattle.slip.specs.declared.Fields.{Fields}
use Rattle.board.specs.Places.{shown}
use Rattle.board.specs.Rules.{Rule, judge, rank, rank_of, better, later, reading_first, Orders}
use Rattle.board.specs.Series.{listed, ran, those, is_of, left, has, firsts, empty, After, FirstOfBest}
use Rattle.board.proofs.Series.{from_empty}

-- ---- the reading first

pub better-reading : (listed new : Fields) → rank_of new < rank_of listed → reading_first listed new ≡ true
better-reading listed new l =
    not_chosen (later listed new) (better listed new) (ne_eqb (rank_of new) (rank_of listed) (λ e. absurd (omega (arith, e))))
    ∙ lt-ltb (rank_of new) (rank_of listed) l

pub worse-reading : (listed new : Fields) → rank_of listed < rank_of new → reading_first listed new ≡ false
worse-reading listed new l =
    not_chosen (later listed new) (better listed new) (ne_eqb (rank_of new) (rank_of listed) (λ e. absurd (omega (arith, e))))
    ∙ le-ltb (rank_of new) (rank_of listed) (omega arith)

-- and the start only between equal readings; if both are equal the listed slip remains
pub later-start : (listed new : Fields) → rank_of new ≡ rank_of listed → listed.start < new.start → reading_first listed new ≡ true
later-start listed new e l =
    chosen (later listed new) (better listed new) (eq-eqb (rank_of new) (rank_of listed) e) ∙ lt-ltb listed.start new.start l

pub no-later : (listed new : Fields) → rank_of new ≡ rank_of listed → new.start ≤ listed.start → reading_first listed new ≡ false
no-later listed new e l =
    chosen (later listed new) (better listed new) (eq-eqb (rank_of new) (rank_of listed) e) ∙ le-ltb listed.start new.start l

-- Sure is better than Likely, Likely than Kept and Kept than Open, whatever their passes and scores
pub sure-likely : (x y : Float) (pass pass' : ℕ) → rank (Sure x pass) < rank (Likely y pass')
sure-likely x y pass pass' = le_refl 1

pub likely-kept : (x y : Float) (pass : ℕ) → rank (Likely x pass) < rank (Kept y)
likely-kept x y pass = le_refl 2

pub kept-open : (x y : Float) → rank (Kept x) < rank (Open y)
kept-open x y = le_refl 3

-- ---- it orders slips

-- a new slip with its rank p and start a against a listed one with q and b
data Against (p a q b : ℕ) : Type 0 where
  reads-better : p < q → Against p a q b
  reads-worse : q < p → Against p a q b
  starts-later : p ≡ q → b < a → Against p a q b
  starts-no-later : p ≡ q → a ≤ b → Against p a q b

against : (p a q b : ℕ) → Against p a q b
against p a q b = by (eqb p q) (ltb p q) (ltb b a) refl refl refl
  where
    by : (t u v : Bool) → eqb p q ≡ t → ltb p q ≡ u → ltb b a ≡ v → Against p a q b
    by true u true e f h = starts-later (eqb-true p q e) (ltb-true b a h)
    by true u false e f h = starts-no-later (eqb-true p q e) (ltb-false b a h)
    by false true v e f h = reads-better (ltb-true p q f)
    by false false v e f h =
        let apart = eqb-false p q e in
        reads-worse (omega (arith, ltb-false p q f, apart))

abbrev compared : Fields → Fields → Type 0
compared f g = Against (rank_of g) g.start (rank_of f) f.start

-- a slip that replaces another reads better, or as well and is later
Replaced : Fields → Fields → Type 0
Replaced f g = (rank_of g ≤ rank_of f) × (rank_of g ≡ rank_of f → f.start < g.start)

replaced : (f g : Fields) → reading_first f g ≡ true → Replaced f g
unfolding Replaced
replaced f g e = by (against (rank_of g) g.start (rank_of f) f.start)
  where
    by : compared f g → Replaced f g
    by (reads-better l) = (omega arith, λ q. absurd (omega (arith, q)))
    by (reads-worse l) = absurd (true≢false (sym e ∙ worse-reading f g l))
    by (starts-later q l) = (omega (arith, q), λ p. l)
    by (starts-no-later q l) = absurd (true≢false (sym e ∙ no-later f g q l))

-- one that does not reads worse, or as well and is no later
Stays : Fields → Fields → Type 0
Stays f g = (rank_of f ≤ rank_of g) × (rank_of g ≡ rank_of f → g.start ≤ f.start)

stays : (f g : Fields) → reading_first f g ≡ false → Stays f g
unfolding Stays
stays f g e = by (against (rank_of g) g.start (rank_of f) f.start)
  where
    by : compared f g → Stays f g
    by (reads-better l) = absurd (true≢false (sym (better-reading f g l) ∙ e))
    by (reads-worse l) = (omega arith, λ q. absurd (omega (arith, q)))
    by (starts-later q l) = absurd (true≢false (sym (later-start f g q l) ∙ e))
    by (starts-no-later q l) = (omega (arith, q), λ p. l)

pub reading-first-orders : Orders reading_first
unfolding Replaced Stays
reading-first-orders =
    record {
      one_way = λ f g p. back f g (replaced f g p) (against (rank_of f) f.start (rank_of g) g.start);
      onward = λ f g h p q. over f g h (replaced f g p) (stays f h q) (against (rank_of g) g.start (rank_of h) h.start);
    }
  where
    back : (f g : Fields) → Replaced f g → compared g f → reading_first g f ≡ false
    back f g (a, b) (reads-better l) = absurd (omega arith)
    back f g (a, b) (reads-worse l) = worse-reading g f l
    back f g (a, b) (starts-later e l) = absurd (omega (arith, b (sym e)))
    back f g (a, b) (starts-no-later e l) = no-later g f e l

    over : (f g h : Fields) → Replaced f g → Stays f h → compared h g → reading_first h g ≡ true
    over f g h (a, b) (c, d) (reads-better l) = better-reading h g l
    over f g h (a, b) (c, d) (reads-worse l) = absurd (omega arith)
    over f g h (a, b) (c, d) (starts-later e l) = later-start h g e l
    over f g h (a, b) (c, d) (starts-no-later e l) =
        let same : rank_of g ≡ rank_of f = omega (arith, e) in
        absurd (omega (arith, b same, d (sym e ∙ same)))

-- ---- what is left of a series is the first of the best, under any rule that orders slips

module _ (rule : Rule) (o : Orders rule) where
  -- what is left of a and the slips behind it: a, or one of those
  data Left (a : List ℕ) (xs : List (List ℕ)) (l : List ℕ) : Type 0 where
    itself : a ≡ l → some_of (λ y. rule (taken l) (taken y)) xs ≡ false → Left a xs l
    another : (ys zs : List (List ℕ)) → xs ≡ ys ++ (l ∷ zs) → rule (taken a) (taken l) ≡ true
        → some_of (λ y. not (rule (taken y) (taken l))) ys ≡ false → some_of (λ y. rule (taken l) (taken y)) zs ≡ false → Left a xs l

  from : (a : List ℕ) (xs : List (List ℕ)) (l : List ℕ) → left rule (some a) xs ≡ some l → Left a xs l
  unfolding left
  from a [] l e =
      let same : a ≡ l = cc in
      itself same refl
  from a (x ∷ xs) l e = by (rule (taken a) (taken x)) refl (from (judge rule a x) xs l e)
    where
      by : (t : Bool) → rule (taken a) (taken x) ≡ t → Left (choose t x a) xs l → Left a (x ∷ xs) l
      by true p (itself q last) = another [] xs (ap (λ (y : List ℕ). y ∷ xs) q) (subst (λ (y : List ℕ). rule (taken a) (taken y) ≡ true) q p) refl last
      by true p (another ys zs q up over last) =
          another (x ∷ ys) zs (ap (λ (l : List (List ℕ)). x ∷ l) q)
          (o.onward (taken x) (taken l) (taken a) up (o.one_way (taken a) (taken x) p))
          (ap₂ ◌||◌ (ap not up) over) last
      by false p (itself q last) =
          itself q (ap₂ ◌||◌ (subst (λ (y : List ℕ). rule (taken y) (taken x) ≡ false) q p) last)
      by false p (another ys zs q up over last) =
          another (x ∷ ys) zs (ap (λ (l : List (List ℕ)). x ∷ l) q) up
          (ap₂ ◌||◌ (ap not (o.onward (taken a) (taken l) (taken x) up p)) over) last

  pub first-of-best : (xs : List (List ℕ)) (l : List ℕ) → left rule none xs ≡ some l → FirstOfBest rule xs l
  unfolding left
  first-of-best [] l e = let never : ◌≡◌ {A = ℕ} 0 1 = cc in absurd (omega arith)
  first-of-best (x ∷ xs) l e = by (from x xs l e)
    where
      by : Left x xs l → FirstOfBest rule (x ∷ xs) l
      by (itself q last) =
          record { ahead = []; behind = xs; stands = ap (λ (y : List ℕ). y ∷ xs) q; above = refl; unbeaten = last }
      by (another ys zs q up over last) =
          record { ahead = x ∷ ys; behind = zs; stands = ap (λ (l : List (List ℕ)). x ∷ l) q; above = ap₂ ◌||◌ (ap not up) over; unbeaten = last }

-- ---- so on the board

-- after any series from an empty board: which segments are listed, what each string is answered, and what is shown by this order
pub after_any : (bytes : List ℕ) (xs : List (List ℕ)) → length bytes ≡ 44 * 512 → After reading_first bytes xs
after_any = from_empty reading_first

-- the slip that is shown for a segment is the first of its best: of all its slips none reads better, of those that read as well none is
-- later, and of those that are as late too it came first
pub shown-first : (bytes : List ℕ) (xs : List (List ℕ)) → length bytes ≡ 44 * 512 → (g : ℕ) (l : List ℕ)
    → shown g (listed (ran reading_first (empty bytes) xs)) ≡ some l → FirstOfBest reading_first (those (λ x. is_slip x && is_of g x) xs) l
shown-first bytes xs size g l e = by (has g (firsts 512 [] xs)) (sym ((after_any bytes xs size).shows-all g) ∙ e)
  where
    by : (t : Bool) → choose t (left reading_first none (those (λ x. is_slip x && is_of g x) xs)) none ≡ some l
        → FirstOfBest reading_first (those (λ x. is_slip x && is_of g x) xs) l
    by true q = first-of-best reading_first reading-first-orders (those (λ x. is_slip x && is_of g x) xs) l q
    by false q = let never : ◌≡◌ {A = ℕ} 0 1 = cc in absurd (omega arith)
