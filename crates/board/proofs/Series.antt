-- A series of byte strings put on a board, under any rule: what it shows, what it lists and what each string is answered.
-- Assumes nothing.
use Prim.Native.Nat.{ℕ, suc, ◌*◌, ◌≤◌, zero-le}
use mathlib.Core.Bool.{Bool, true, false, not, ◌&&◌, ◌||◌, and-false}
use mathlib.Core.List.{List, [], ◌∷◌, map}
use mathlib.Core.Option.{Option, none, some}
use mathlib.Core.Path.{◌≡◌, refl, sym, ap, ap₂, subst, ◌∙◌}
use native.Mathlib.Omega.{arith}
use borrow.Author.Tests.{lt-ltb, le-ltb, eqb-true, eqb-false, eq-eqb}
use lib.Dec.{eqb, ltb}
use lib.ListN.{length}
use Rattle.util.specs.Choose.{choose}
use Rattle.util.specs.Refusal.{Outcome, refused}
use Rattle.util.proofs.Choose.{chosen, not_chosen, by-case}
use Rattle.slip.specs.Slips.{is_slip}
use Rattle.board.specs.Places.{places, segment_of, rising, is_listed, shown}
use Rattle.board.specs.Rules.{Rule}
use Rattle.board.specs.Series.{Board, Good, listed, answer_to, put, ran, answers, those, is_accepted, admitted, is_of, left}
use Rattle.board.specs.Series.{has, firsts, answer_by, empty, After}
use Rattle.board.proofs.Listing.{put_in, shown-own, shown-other, listed-own, listed-other}
use Rattle.board.proofs.Turn.{rises, good-board, Done, Turn, broken, full, again, new, turn}

-- a put leaves a board that is not refused
pub good-put : (rule : Rule) (b : Board) (x : List ℕ) → Good b → Good (put rule b x)
good-put rule b x g = by (turn rule b x g)
  where
    by : Turn rule b x → Good (put rule b x)
    by (broken e a same) = subst Good (sym same) g
    by (full e f c a same) = subst Good (sym same) g
    by (again e f d) = d.good
    by (new e f c d) = d.good

pub good-ran : (rule : Rule) (b : Board) (xs : List (List ℕ)) → Good b → Good (ran rule b xs)
unfolding ran
good-ran rule b [] g = g
good-ran rule b (x ∷ xs) g = good-ran rule (put rule b x) xs (good-put rule b x g)

-- ---- what is shown

-- a series goes on from what its first slip leaves
left-more : (rule : Rule) (o : Option (List ℕ)) (x : List ℕ) (xs : List (List ℕ))
    → left rule (left rule o (x ∷ [])) xs ≡ left rule o (x ∷ xs)
unfolding left
left-more rule none x xs = refl
left-more rule (some l) x xs = refl

-- one string more before those that are let in later, of which a refused one is set aside
module _ (rule : Rule) (h : ℕ) (b : Board) (x : List ℕ) (g : Good b) (later : List (List ℕ)) where
  -- those of segment h
  abbrev own : List (List ℕ)
  own = those (is_of h) later

  abbrev with_it : Outcome Unit → List (List ℕ)
  with_it o = choose (is_accepted o) (x ∷ later) later

  -- its own segment's slip is judged; another's does not matter
  judged : (u : Bool) → eqb (segment_of x) h ≡ u
      → left rule (shown h (put_in rule x (listed b))) own ≡ left rule (shown h (listed b)) (choose u (x ∷ own) own)
  judged true q =
      let its = shown-own rule x 0 (listed b) (rises b.bytes b.count g.good) in
      let same : segment_of x ≡ h = eqb-true (segment_of x) h q in
      ap (λ (o : Option (List ℕ)). left rule o own)
      (subst (λ (n : ℕ). shown n (put_in rule x (listed b)) ≡ left rule (shown n (listed b)) (x ∷ [])) same its)
      ∙ left-more rule (shown h (listed b)) x own
  judged false q = ap (λ (o : Option (List ℕ)). left rule o own) (shown-other rule x h (listed b) (eqb-false (segment_of x) h q))

  one_more : left rule (shown h (listed (put rule b x))) own ≡ left rule (shown h (listed b)) (those (is_of h) (with_it (answer_to b x)))
  unfolding those
  one_more = by (turn rule b x g)
    where
      aside : (k : ℕ) → answer_to b x ≡ refused k → put rule b x ≡ b
          → left rule (shown h (listed (put rule b x))) own ≡ left rule (shown h (listed b)) (those (is_of h) (with_it (answer_to b x)))
      aside k a same =
          ap₂ (λ (c : Board) (o : Outcome Unit). left rule (shown h (listed c)) (those (is_of h) (with_it o))) same (sym a)

      let-in : Done rule b x
          → left rule (shown h (listed (put rule b x))) own ≡ left rule (shown h (listed b)) (those (is_of h) (with_it (answer_to b x)))
      let-in d =
          ap (λ (ss : List (List ℕ)). left rule (shown h ss) own) d.slips
          ∙ judged (eqb (segment_of x) h) refl
          ∙ ap (λ (o : Outcome Unit). left rule (shown h (listed b)) (those (is_of h) (with_it o))) (sym d.answer)

      by : Turn rule b x
          → left rule (shown h (listed (put rule b x))) own ≡ left rule (shown h (listed b)) (those (is_of h) (with_it (answer_to b x)))
      by (broken e a same) = aside 13 a same
      by (full e f c a same) = aside 14 a same
      by (again e f d) = let-in d
      by (new e f c d) = let-in d

pub shows : (rule : Rule) (h : ℕ) (b : Board) (xs : List (List ℕ)) → Good b
    → shown h (listed (ran rule b xs)) ≡ left rule (shown h (listed b)) (those (is_of h) (admitted rule b xs))
unfolding ran admitted those left
shows rule h b [] g = refl
shows rule h b (x ∷ xs) g =
    shows rule h (put rule b x) xs (good-put rule b x g) ∙ one_more rule h b x g (admitted rule (put rule b x) xs)

-- ---- which segments are listed

or-true : (t : Bool) → (t || true) ≡ true
or-true true = refl
or-true false = refl

-- a segment that is among the first stays so
kept : (n h : ℕ) (seen : List ℕ) (xs : List (List ℕ)) → has h seen ≡ true → has h (firsts n seen xs) ≡ true
unfolding firsts has
kept n h seen [] e = e
kept n h seen (x ∷ xs) e =
    by-case (λ (l : List ℕ). has h l ≡ true) (is_slip x && (not (has (segment_of x) seen) && ltb (length seen) n))
    (firsts n (segment_of x ∷ seen) xs) (firsts n seen xs)
    (λ p. kept n h (segment_of x ∷ seen) xs (ap (λ (t : Bool). eqb (segment_of x) h || t) e ∙ or-true (eqb (segment_of x) h)))
    (λ p. kept n h seen xs e)

-- n are the first n for good
stays : (n : ℕ) (seen : List ℕ) (xs : List (List ℕ)) → n ≤ length seen → firsts n seen xs ≡ seen
unfolding firsts
stays n seen [] l = refl
stays n seen (x ∷ xs) l =
    not_chosen (firsts n (segment_of x ∷ seen) xs) (firsts n seen xs)
    (ap (λ (t : Bool). is_slip x && (not (has (segment_of x) seen) && t)) (le-ltb (length seen) n l)
    ∙ ap (λ (t : Bool). is_slip x && t) (and-false (not (has (segment_of x) seen)))
    ∙ and-false (is_slip x))
    ∙ stays n seen xs l

-- the segments seen are the listed ones
record Seen (b : Board) (seen : List ℕ) : Type 0 where
  same : (h : ℕ) → has h seen ≡ is_listed h (listed b)
  many : length seen ≡ b.count

record Answered (rule : Rule) (b : Board) (seen : List ℕ) (xs : List (List ℕ)) : Type 0 where
  by-firsts : answers rule b xs ≡ map (answer_by (firsts 512 seen xs)) xs
  let-in : admitted rule b xs ≡ those (λ x. is_accepted (answer_by (firsts 512 seen xs) x)) xs
  are : (h : ℕ) → is_listed h (listed (ran rule b xs)) ≡ has h (firsts 512 seen xs)

-- a segment is listed after a put as before, but that its own is
listed-put : (rule : Rule) (b : Board) (x : List ℕ) (h : ℕ) → Good b → Done rule b x
    → is_listed h (listed (put rule b x)) ≡ (eqb (segment_of x) h || is_listed h (listed b))
listed-put rule b x h g d = ap (is_listed h) d.slips ∙ by (eqb (segment_of x) h) refl
  where
    by : (u : Bool) → eqb (segment_of x) h ≡ u → is_listed h (put_in rule x (listed b)) ≡ (u || is_listed h (listed b))
    by true q =
        subst (λ (n : ℕ). is_listed n (put_in rule x (listed b)) ≡ true) (eqb-true (segment_of x) h q)
        (listed-own rule x 0 (listed b) (rises b.bytes b.count g.good))
    by false q = listed-other rule x h (listed b) (eqb-false (segment_of x) h q)

answered : (rule : Rule) (b : Board) (seen : List ℕ) (xs : List (List ℕ)) → Good b → Seen b seen → Answered rule b seen xs
unfolding ran answers admitted those firsts answer_by has
answered rule b seen [] g s = record { by-firsts = refl; let-in = refl; are = λ h. sym (s.same h) }
answered rule b seen (x ∷ xs) g s = by (turn rule b x g) (λ more. answered rule (put rule b x) more xs (good-put rule b x g))
  where
    step : (more : List ℕ) → firsts 512 seen (x ∷ xs) ≡ firsts 512 more xs → answer_to b x ≡ answer_by (firsts 512 more xs) x
        → Answered rule (put rule b x) more xs → Answered rule b seen (x ∷ xs)
    step more f a r =
        record {
          by-firsts = ap₂ ◌∷◌ a r.by-firsts ∙ ap (λ (l : List ℕ). map (answer_by l) (x ∷ xs)) (sym f);
          let-in =
              ap₂ (λ (o : Outcome Unit) (l : List (List ℕ)). choose (is_accepted o) (x ∷ l) l) a r.let-in
              ∙ ap (λ (l : List ℕ). those (λ y. is_accepted (answer_by l y)) (x ∷ xs)) (sym f);
          are = λ h. r.are h ∙ ap (has h) (sym f);
        }

    no_more : is_slip x && (not (has (segment_of x) seen) && ltb (length seen) 512) ≡ false → firsts 512 seen (x ∷ xs) ≡ firsts 512 seen xs
    no_more e = not_chosen (firsts 512 (segment_of x ∷ seen) xs) (firsts 512 seen xs) e

    one-firsts : (is_slip x && (not (has (segment_of x) seen) && ltb (length seen) 512)) ≡ true
        → firsts 512 seen (x ∷ xs) ≡ firsts 512 (segment_of x ∷ seen) xs
    one-firsts e = chosen (firsts 512 (segment_of x ∷ seen) xs) (firsts 512 seen xs) e

    by : Turn rule b x → ((more : List ℕ) → Seen (put rule b x) more → Answered rule (put rule b x) more xs) → Answered rule b seen (x ∷ xs)
    by (broken e a same) later =
        step seen (no_more (rw e refl)) (a ∙ sym (rw e refl)) (later seen (subst (λ (c : Board). Seen c seen) (sym same) s))
    by (full e f c a same) later =
        let many : length seen ≡ 512 = s.many ∙ c in
        let unseen : has (segment_of x) (firsts 512 seen xs) ≡ false =
        ap (has (segment_of x)) (stays 512 seen xs (omega (arith, many))) ∙ s.same (segment_of x) ∙ f in
        step seen
        (no_more (rw (e, s.same (segment_of x) ∙ f, le-ltb (length seen) 512 (omega (arith, many))) refl))
        (a ∙ sym (rw (e, unseen) refl))
        (later seen (subst (λ (c : Board). Seen c seen) (sym same) s))
    by (again e f d) later =
        let there : has (segment_of x) seen ≡ true = s.same (segment_of x) ∙ f in
        step seen
        (no_more (rw (e, there) refl))
        (d.answer ∙ sym (rw (e, kept 512 (segment_of x) seen xs there) refl))
        (later seen
        (record {
          same = λ h. s.same h ∙ sym (listed-put rule b x h g d ∙ within h (eqb (segment_of x) h) refl f);
          many = s.many ∙ sym (d.count ∙ chosen _ _ f);
        }))
      where
        within : (h : ℕ) (u : Bool) → eqb (segment_of x) h ≡ u → is_listed (segment_of x) (listed b) ≡ true
            → (u || is_listed h (listed b)) ≡ is_listed h (listed b)
        within h true q f = sym (subst (λ (n : ℕ). is_listed n (listed b) ≡ true) (eqb-true (segment_of x) h q) f)
        within h false q f = refl
    by (new e f c d) later =
        let more = segment_of x ∷ seen in
        let itself : has (segment_of x) more ≡ true = own in
        step more
        (one-firsts (rw (e, s.same (segment_of x) ∙ f, lt-ltb (length seen) 512 (omega (arith, s.many))) refl))
        (d.answer ∙ sym (rw (e, kept 512 (segment_of x) more xs itself) refl))
        (later more
        (record { same = λ h. one_seen h ∙ sym (listed-put rule b x h g d); many = ap suc s.many ∙ sym (d.count ∙ not_chosen _ _ f) }))
      where
        own : has (segment_of x) (segment_of x ∷ seen) ≡ true
        own = ap (λ (t : Bool). t || has (segment_of x) seen) (eq-eqb (segment_of x) (segment_of x) refl)

        one_seen : (h : ℕ) → has h (segment_of x ∷ seen) ≡ (eqb (segment_of x) h || is_listed h (listed b))
        one_seen h = ap (λ (t : Bool). eqb (segment_of x) h || t) (s.same h)

-- ---- of a listed segment all slips count

those-both : (p q : List ℕ → Bool) (xs : List (List ℕ)) → those p (those q xs) ≡ those (λ x. q x && p x) xs
unfolding those
those-both p q [] = refl
those-both p q (x ∷ xs) = by (q x) (those-both p q xs)
  where
    by : (t : Bool) → those p (those q xs) ≡ those (λ y. q y && p y) xs
        → those p (choose t (x ∷ those q xs) (those q xs)) ≡ choose (t && p x) (x ∷ those (λ y. q y && p y) xs) (those (λ y. q y && p y) xs)
    by true rest = ap (λ (l : List (List ℕ)). choose (p x) (x ∷ l) l) rest
    by false rest = rest

those-none : (xs : List (List ℕ)) → those (λ x. false) xs ≡ []
unfolding those
those-none [] = refl
those-none (x ∷ xs) = those-none xs

module _ (segments : List ℕ) (h : ℕ) where
  -- a slip of segment h is accepted or not as h is among them
  of-listed : has h segments ≡ true → (x : List ℕ) → (is_accepted (answer_by segments x) && is_of h x) ≡ (is_slip x && is_of h x)
  unfolding answer_by
  of-listed e x = by (is_slip x) (eqb (segment_of x) h) refl refl
    where
      by : (t u : Bool) → is_slip x ≡ t → eqb (segment_of x) h ≡ u → (is_accepted (answer_by segments x) && u) ≡ (t && u)
      by true true p q = rw (p, ap (λ (n : ℕ). has n segments) (eqb-true (segment_of x) h q) ∙ e) refl
      by true false p q = and-false (is_accepted (answer_by segments x))
      by false u p q = rw p refl

  of_other : has h segments ≡ false → (x : List ℕ) → (is_accepted (answer_by segments x) && is_of h x) ≡ false
  unfolding answer_by
  of_other e x = by (is_slip x) (eqb (segment_of x) h) refl refl
    where
      by : (t u : Bool) → is_slip x ≡ t → eqb (segment_of x) h ≡ u → (is_accepted (answer_by segments x) && u) ≡ false
      by true true p q = rw (p, ap (λ (n : ℕ). has n segments) (eqb-true (segment_of x) h q) ∙ e) refl
      by true false p q = and-false (is_accepted (answer_by segments x))
      by false u p q = rw p refl

-- ---- from an empty board

empty-good : (bytes : List ℕ) → length bytes ≡ 44 * 512 → Good (empty bytes)
unfolding places rising
empty-good bytes e = record { size = e; good = good-board bytes 0 zero-le refl }

empty-seen : (bytes : List ℕ) → Seen (empty bytes) []
unfolding has is_listed places
empty-seen bytes = record { same = λ h. refl; many = refl }

module _ (rule : Rule) (bytes : List ℕ) (xs : List (List ℕ)) (g : Good (empty bytes)) where
  -- those that are accepted where these segments are listed
  abbrev accepted-by : List ℕ → List (List ℕ)
  accepted-by segments = those (λ x. is_accepted (answer_by segments x)) xs

  from-none : (h : ℕ) → shown h (listed (ran rule (empty bytes) xs)) ≡ left rule none (those (is_of h) (admitted rule (empty bytes) xs))
  unfolding places shown
  from-none h = shows rule h (empty bytes) xs g

  of-all : (segments : List ℕ) (h : ℕ) (t : Bool) → has h segments ≡ t
      → left rule none (those (is_of h) (accepted-by segments)) ≡ choose t (left rule none (those (λ x. is_slip x && is_of h x) xs)) none
  unfolding left
  of-all segments h true q =
      ap (left rule none)
      (those-both (is_of h) (λ x. is_accepted (answer_by segments x)) xs
      ∙ ap (λ (p : List ℕ → Bool). those p xs) (λ i x. of-listed segments h q x i))
  of-all segments h false q =
      ap (left rule none)
      (those-both (is_of h) (λ x. is_accepted (answer_by segments x)) xs
      ∙ ap (λ (p : List ℕ → Bool). those p xs) (λ i x. of_other segments h q x i)
      ∙ those-none xs)

pub from_empty : (rule : Rule) (bytes : List ℕ) (xs : List (List ℕ)) → length bytes ≡ 44 * 512 → After rule bytes xs
from_empty rule bytes xs e =
    let g = empty-good bytes e in
    let a = answered rule (empty bytes) [] xs g (empty-seen bytes) in
    record {
      good = good-ran rule (empty bytes) xs g;
      listed-are = a.are;
      answered = a.by-firsts;
      shows = from-none rule bytes xs g;
      shows-all = λ h.
          from-none rule bytes xs g h
          ∙ ap (λ (l : List (List ℕ)). left rule none (those (is_of h) l)) a.let-in
          ∙ of-all rule bytes xs g (firsts 512 [] xs) h (has h (firsts 512 [] xs)) refl;
    }
