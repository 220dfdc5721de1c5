-- Document 01, 'When nothing is done': what a public entry answers.
use Rattle.std.specs.Prelude.{◌≡◌, ℕ, suc, ◌≤◌, Bool, true, false, ◌&&◌, List, [], ◌∷◌, ◌==◌, nat_le, Result, Ok, Err}
use Rattle.util.specs.Choose.{choose}
use Rattle.util.specs.declared.refusal.Refusal.{Refusal}
use Rattle.util.specs.declared.refusal.Refusal.TheVariants.{Unnamed, TooMany, Window, Length, NotBits, Terms, Blanked, Sample, Tracker, Blocks, NotSymbols, Layout, Slip, FullBoard, Noise, Labels}

-- a line of the table: whether its cause is there, and its number
pub record Cause : Type 0 where
  pub holds : Bool
  pub number : ℕ

-- an entry returns a refusal's number and nothing else, or its result
pub data Outcome (A : Type 0) : Type 0 where
  refused : ℕ → Outcome A
  accepted : A → Outcome A

-- the number of each refusal
abbrev pub number_of : Refusal → ℕ
number_of Unnamed = 1
number_of TooMany = 2
number_of Window = 3
number_of Length = 4
number_of NotBits = 5
number_of Terms = 6
number_of Blanked = 7
number_of Sample = 8
number_of Tracker = 9
number_of Blocks = 10
number_of NotSymbols = 11
number_of Layout = 12
number_of Slip = 13
number_of FullBoard = 14
number_of Noise = 15
number_of Labels = 16

-- what an entry's result says, where a value of it stands for what `of` makes of it
abbrev pub meaning_by : {A B : Type 0} → (A → B) → Result A Refusal → Outcome B
meaning_by of (Ok a) = accepted (of a)
meaning_by of (Err r) = refused (number_of r)

abbrev pub meaning : {A : Type 0} → Result A Refusal → Outcome A
meaning (Ok a) = accepted a
meaning (Err r) = refused (number_of r)

-- of the causes in the entry's order the first that holds; the result where none does
abbrev pub outcome : {A : Type 0} → List Cause → A → Outcome A
outcome [] a = accepted a
outcome (c ∷ cs) a = choose c.holds (refused c.number) (outcome cs a)

-- what is lent, at exit: as it was on a refusal, else what the entry makes of it
abbrev pub afterwards : {A B : Type 0} → Outcome A → B → B → B
afterwards (refused k) was new = was
afterwards (accepted a) was new = new

-- the order in which causes come before each other, for every entry: document 01's numbers rise, and document 02 says
-- of each of its own which number it comes after (11 after 5, 12 after 1, 13 after 10, 14 after 13, 15 after 6, 16 after 4)
abbrev pub precedence : List ℕ
precedence = 1 ∷ 12 ∷ 2 ∷ 3 ∷ 4 ∷ 16 ∷ 5 ∷ 11 ∷ 6 ∷ 15 ∷ 7 ∷ 8 ∷ 9 ∷ 10 ∷ 13 ∷ 14 ∷ []

-- the causes' numbers stand in that order, none twice: each is found in what is left of the order after the one before
abbrev pub in_order : List ℕ → List Cause → Bool
in_order [] [] = true
in_order [] (c ∷ cs) = false
in_order (k ∷ ks) [] = true
in_order (k ∷ ks) (c ∷ cs) = choose (k == c.number) (in_order ks cs) (in_order ks (c ∷ cs))

-- a number's place in an order, from 0; the order's length where it is not there
unfoldable pub place_in : List ℕ → ℕ → ℕ
place_in [] k = 0
place_in (l ∷ ls) k = choose (l == k) 0 (suc (place_in ls k))

-- in an order k comes before l, or is l: its place is not after l's
unfoldable pub Before : List ℕ → ℕ → ℕ → Type 0
Before order k l = place_in order k ≤ place_in order l

-- no cause that holds has a number that comes before k
abbrev pub NoneBefore : List ℕ → ℕ → List Cause → Type 0
NoneBefore order k [] = Unit
NoneBefore order k (c ∷ cs) = (c.holds ≡ true → Before order k c.number) × NoneBefore order k cs

-- document 01, 'Of several, the lowest number': no cause that holds has a number below k
abbrev pub NoneBelow : ℕ → List Cause → Type 0
NoneBelow k [] = Unit
NoneBelow k (c ∷ cs) = (c.holds ≡ true → k ≤ c.number) × NoneBelow k cs

-- from k on the causes' numbers never fall
abbrev pub rises : ℕ → List Cause → Bool
rises k [] = true
rises k (c ∷ cs) = nat_le k c.number && rises c.number cs

-- of several causes that hold, an entry answers with the number that comes first; document 01's words where the causes'
-- numbers rise
pub record First (k : ℕ) (cs : List Cause) : Type 0 where
  pub first : NoneBefore precedence k cs
  pub lowest : rises 0 cs ≡ true → NoneBelow k cs

-- ---- at the face to C: a number, and places that are written only where it is 0

-- 0, or the refusal's number
abbrev pub number : {A : Type 0} → Outcome A → ℕ
number (refused k) = k
number (accepted a) = 0

-- a place lent for a result: as it was on a refusal, else the result
abbrev pub place : {A B : Type 0} → (A → B) → Outcome A → B → B
place of (refused k) was = was
place of (accepted a) was = of a

-- the result itself
abbrev pub itself : {A : Type 0} → A → A
itself a = a
