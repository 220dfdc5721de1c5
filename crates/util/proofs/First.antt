-- Of an entry's causes that hold, the one answered is the first in the order of all numbers, since the causes stand in
-- that order; and it is the lowest where their numbers rise. Assumes nothing.
use Rattle.std.proofs.Common.{◌≡◌, ℕ, suc, ◌≤◌, Bool, true, false, eqb, leb, List, [], ◌∷◌, sym, refl, ◌∙◌, true≢false, arith, eq-eqb, ne_eqb, eqb-true, leb-true}
use mathlib.Core.Bool.{and-eq-true_iff}
use borrow.Author.Tests.{not-true}
use Rattle.util.specs.Choose.{choose}
use Rattle.util.specs.Some.{some_of}
use Rattle.util.specs.Refusal.{Cause, Outcome, refused, outcome, precedence, in_order, place_in, Before, NoneBefore, NoneBelow, rises, First}
use Rattle.util.proofs.Choose.{chosen, not_chosen}
use Rattle.util.proofs.Some.{neither}
use Rattle.util.proofs.Distinct.{distinct, distinct-both}

-- no cause has number l
abbrev Apart : ℕ → List Cause → Type 0
Apart l [] = Unit
Apart l (c ∷ cs) = (l ≡ c.number → ⊥) × Apart l cs

-- causes in an order have only its numbers
apart : (l : ℕ) (order : List ℕ) (cs : List Cause) → some_of (eqb l) order ≡ false → in_order order cs ≡ true → Apart l cs
apart l [] [] out e = tt
apart l [] (c ∷ cs) out e = absurd (true≢false (sym e))
apart l (o ∷ os) [] out e = tt
apart l (o ∷ os) (c ∷ cs) out e =
    let both = neither (eqb l o) (some_of (eqb l) os) out in
    by (eqb o c.number) refl both.0 (apart l os cs both.1) (apart l os (c ∷ cs) both.1)
  where
    by : (t : Bool) → eqb o c.number ≡ t → eqb l o ≡ false → (in_order os cs ≡ true → Apart l cs)
        → (in_order os (c ∷ cs) ≡ true → Apart l (c ∷ cs)) → Apart l (c ∷ cs)
    by true p other here there = (
      (λ same. true≢false (sym (eq-eqb l o (same ∙ sym (eqb-true o c.number p))) ∙ other)),
      here (sym (chosen (in_order os cs) (in_order os (c ∷ cs)) p) ∙ e),
    )
    by false p other here there = there (sym (not_chosen (in_order os cs) (in_order os (c ∷ cs)) p) ∙ e)

-- one number more at the head of the order moves the place of every other by one
further : (l : ℕ) (order : List ℕ) (k m : ℕ) → (l ≡ m → ⊥) → Before order k m → Before (l ∷ order) k m
unfolding Before place_in
further l order k m other b = rw (ne_eqb l m other) (by (eqb l k))
  where
    by : (t : Bool) → choose t 0 (suc (place_in order k)) ≤ suc (place_in order m)
    by true = omega arith
    by false = omega arith

moved : (l : ℕ) (order : List ℕ) (k : ℕ) (cs : List Cause) → Apart l cs → NoneBefore order k cs → NoneBefore (l ∷ order) k cs
moved l order k [] other rest = tt
moved l order k (c ∷ cs) other rest =
    ((λ h. further l order k c.number other.0 (rest.0 h)), moved l order k cs other.1 rest.1)

-- the order's first number comes before all
head_first : (l : ℕ) (order : List ℕ) (k m : ℕ) → l ≡ k → Before (l ∷ order) k m
unfolding Before place_in
head_first l order k m same = rw (eq-eqb l k same) (omega arith)

all_after : (l : ℕ) (order : List ℕ) (k : ℕ) (cs : List Cause) → l ≡ k → NoneBefore (l ∷ order) k cs
all_after l order k [] same = tt
all_after l order k (c ∷ cs) same = ((λ _. head_first l order k c.number same), all_after l order k cs same)

-- a cause that is the order's next: it is answered where it holds, and else nothing of it is
at_head : {A : Type 0} (l : ℕ) (order : List ℕ) (c : Cause) (cs : List Cause) (a : A) (k : ℕ) → l ≡ c.number → Apart l cs
    → outcome (c ∷ cs) a ≡ refused k → (outcome cs a ≡ refused k → NoneBefore order k cs) → NoneBefore (l ∷ order) k (c ∷ cs)
at_head {A} l order c cs a k same other r rest = by c.holds refl
  where
    by : (t : Bool) → c.holds ≡ t → NoneBefore (l ∷ order) k (c ∷ cs)
    by true p =
        let answered : ◌≡◌ {A = Outcome A} (refused c.number) (refused k) = sym (chosen (refused c.number) (outcome cs a) p) ∙ r in
        let number : c.number ≡ k = cc in
        all_after l order k (c ∷ cs) (same ∙ number)
    by false p =
        ((λ h. absurd (true≢false (sym h ∙ p))), moved l order k cs other (rest (sym (not_chosen (refused c.number) (outcome cs a) p) ∙ r)))

none_before : {A : Type 0} (order : List ℕ) (cs : List Cause) (a : A) (k : ℕ) → distinct order ≡ true → in_order order cs ≡ true
    → outcome cs a ≡ refused k → NoneBefore order k cs
none_before [] [] a k d e r = tt
none_before [] (c ∷ cs) a k d e r = absurd (true≢false (sym e))
none_before (l ∷ ls) [] a k d e r = tt
none_before (l ∷ ls) (c ∷ cs) a k d e r =
    let both = distinct-both l ls d in
    by (eqb l c.number) refl (not-true _ both.0) (none_before ls cs a k both.1) (λ f. none_before ls (c ∷ cs) a k both.1 f r)
  where
    by : (t : Bool) → eqb l c.number ≡ t → some_of (eqb l) ls ≡ false → (in_order ls cs ≡ true → outcome cs a ≡ refused k → NoneBefore ls k cs)
        → (in_order ls (c ∷ cs) ≡ true → NoneBefore ls k (c ∷ cs)) → NoneBefore (l ∷ ls) k (c ∷ cs)
    by true p out here there =
        let inside : in_order ls cs ≡ true = sym (chosen (in_order ls cs) (in_order ls (c ∷ cs)) p) ∙ e in
        at_head l ls c cs a k (eqb-true l c.number p) (apart l ls cs out inside) r (here inside)
    by false p out here there =
        let inside : in_order ls (c ∷ cs) ≡ true = sym (not_chosen (in_order ls cs) (in_order ls (c ∷ cs)) p) ∙ e in
        moved l ls k (c ∷ cs) (apart l ls (c ∷ cs) out inside) (there inside)

-- ---- where the numbers rise

-- numbers that rise from k on are not below any j up to k
none_below : (j k : ℕ) (cs : List Cause) → j ≤ k → rises k cs ≡ true → NoneBelow j cs
none_below j k [] low e = tt
none_below j k (c ∷ cs) low e =
    let both = (and-eq-true_iff (leb k c.number) (rises c.number cs)).0 e in
    let next : k ≤ c.number = leb-true k c.number both.0 in
    ((λ _. omega arith), none_below j c.number cs (omega arith) both.1)

first-lowest : {A : Type 0} (j : ℕ) (cs : List Cause) (a : A) (k : ℕ) → rises j cs ≡ true → outcome cs a ≡ refused k → NoneBelow k cs
first-lowest j [] a k e r = tt
first-lowest {A} j (c ∷ cs) a k e r =
    by c.holds refl ((and-eq-true_iff (leb j c.number) (rises c.number cs)).0 e).1 (first-lowest c.number cs a k)
  where
    by : (t : Bool) → c.holds ≡ t → rises c.number cs ≡ true
        → (rises c.number cs ≡ true → outcome cs a ≡ refused k → NoneBelow k cs) → NoneBelow k (c ∷ cs)
    by true p after rest =
        let answered : ◌≡◌ {A = Outcome A} (refused c.number) (refused k) = sym (chosen (refused c.number) (outcome cs a) p) ∙ r in
        let number : c.number ≡ k = cc in
        ((λ _. omega arith), none_below k c.number cs (omega arith) after)
    by false p after rest =
        ((λ h. absurd (true≢false (sym h ∙ p))), rest after (sym (not_chosen (refused c.number) (outcome cs a) p) ∙ r))

-- an entry whose causes stand in the order answers with the first that holds
pub first : {A : Type 0} (cs : List Cause) (a : A) (k : ℕ) → in_order precedence cs ≡ true → outcome cs a ≡ refused k → First k cs
unfolding distinct
first cs a k e r = record { first = none_before precedence cs a k refl e r; lowest = λ rising. first-lowest 0 cs a k rising r }
