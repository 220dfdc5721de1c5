-- What is claimed of a header read: demand 3, for terms that are whole numbers, and what holds of every read that is not refused. The words are
-- document 01's: a walk, a closed word, handed out as closed, out by closing in the first pass. Document 02, #106: the ceiling. #107: the outcomes.
use Rattle.std.specs.Prelude.{ℕ, suc, ◌+◌, ◌-◌, ◌^◌, ◌≤◌, ◌<◌, ◌≡◌, ◌↔◌, List, T, ℤ, pos, ◌+ℤ◌, get_or, ◌≤ℤ◌, ◌<ℤ◌, Float}
use Rattle.std.specs.Float.Ieee.{le, lt}
use Rattle.ieee.specs.Whole.{Whole}
use Rattle.ieee.specs.Units.{Units, Near}
use Rattle.frame.specs.Format.{format_of, header_bits}
use Rattle.frame.specs.Air.{slot_of}
use Rattle.conv.specs.Encoder.{made, bit}
use Rattle.conv.specs.Sent.{labels}
use Rattle.trellis.specs.Scale.{Scale, sum}
use Rattle.trellis.specs.Trellis.{Trellis, walk_score, closed_score}
use Rattle.trellis.specs.Search.{closing, candidate, unclosed, last, search}
use Rattle.trellis.specs.Answer.{Answer, Sure, Likely, Kept, Open, score_in, HandedOutAsClosed, OutInFirstPass, IsSure}
use Rattle.trellis.specs.Numbers.{single, whole}
use Rattle.trellis.specs.Terms.{metric, header, lent, document_search, WholeTerms, UnitTerms}

module _ {A : Type 0} (S : Scale A) (mode kind : ℕ) (terms : ℕ → A) where
  -- in either kind of score: what the walk from state p with the bits of w scores, and what the closed word w does
  abbrev pub walk : ℕ → ℕ → A
  walk p w = walk_score (header S mode kind terms) p w

  abbrev pub closed : ℕ → A
  closed w = closed_score (header S mode kind terms) 14 w

  -- what symbol s of the header sent earns, where that header is the word w: the metric of the value that stands there
  abbrev pub symbol_earns : ℕ → ℕ → A
  symbol_earns w s = metric S (format_of mode).bins terms s (get_or (labels (header_bits kind) (bit w)) s 0)

-- another start or another bit than the closed word w's makes another walk
abbrev pub Another : ℕ → ℕ → ℕ → ℕ → Type 0
Another kind w p v = (p ≡ made (bit w) (header_bits kind) 14) × (v ≡ w) → ⊥

-- An answer's word is the best one, in either kind of score: `at_most` and `less` are the two comparisons of scores.
pub record BestWord {A : Type 0} (S : Scale A) (at_most less : A → A → Type 0) (mode kind : ℕ) (terms : ℕ → A) (a : Answer Float) : Type 0 where
  -- out by closing in the first pass, every walk of as many steps scores at most as much as the word,
  pub optimal : OutInFirstPass a.outcome → (p w : ℕ) → p < 16384 → w < 2 ^ header_bits kind
      → at_most (walk S mode kind terms p w) (closed S mode kind terms a.word)
  -- so no word beats it
  pub unbeaten : OutInFirstPass a.outcome → (w : ℕ) → w < 2 ^ header_bits kind
      → at_most (closed S mode kind terms w) (closed S mode kind terms a.word)
  -- a closed word that scores strictly more than every other walk is handed out, by closing in the first pass
  pub unique : (w : ℕ) → w < 2 ^ header_bits kind
      → ((p v : ℕ) → p < 16384 → v < 2 ^ header_bits kind → Another kind w p v → less (walk S mode kind terms p v) (closed S mode kind terms w))
      → (a.word ≡ w) × OutInFirstPass a.outcome

-- Document 02, #106: no closed word of that length scores above the ceiling, however many passes were run. `bound` is the ceiling in the numbers in
-- which the words' scores are counted: `Is x z` says that the float x is z of them, and `at_most` compares them.
pub record NoneAbove (Is : Float → ℤ → Type 0) (at_most : ℤ → ℤ → Type 0) (mode kind : ℕ) (ints : ℕ → ℤ) (a : Answer Float) : Type 0 where
  pub bound : ℤ
  pub is : Is a.ceiling bound
  pub none_above : (w : ℕ) → w < 2 ^ header_bits kind → at_most (closed whole mode kind ints w) bound

-- Document 02, #107: no closed word of that length beats a Sure one, whichever pass gave it; `at_most` compares their scores.
abbrev pub Unbeaten : (ℤ → ℤ → Type 0) → ℕ → ℕ → (ℕ → ℤ) → Answer Float → Type 0
Unbeaten at_most mode kind ints a =
    IsSure a.outcome → (w : ℕ) → w < 2 ^ header_bits kind → at_most (closed whole mode kind ints w) (closed whole mode kind ints a.word)

-- Document 02, #107: which outcome is given when, by how the search X came to its word. Scores compare as Rust's <= and <.
pub record Graded (X : Trellis Float) (a : Answer Float) : Type 0 where
  -- Sure exactly when the word is out by closing or is the best candidate, and its score is at or above the ceiling; its pass is the last one run
  pub sure : (x : Float) (q : ℕ) → (a.outcome ≡ Sure x q)
      ↔ (((search X).how ≡ unclosed → ⊥) × T (le a.ceiling x) × (q ≡ suc (last X)) × (x ≡ (search X).score))
  -- Likely exactly when it is out by closing and stays below, with that pass, which is the second or the third
  pub likely : (x : Float) (q : ℕ) → (a.outcome ≡ Likely x q) ↔ (((search X).how ≡ closing q) × T (lt x a.ceiling) × (x ≡ (search X).score))
  pub late : (x : Float) (q : ℕ) → a.outcome ≡ Likely x q → (2 ≤ q) × (q ≤ 3)
  -- Kept exactly when it is the best candidate and stays below
  pub kept : (x : Float) → (a.outcome ≡ Kept x) ↔ (((search X).how ≡ candidate) × T (lt x a.ceiling) × (x ≡ (search X).score))
  -- Open exactly when it is neither, wherever its score lies
  pub undecided : (x : Float) → (a.outcome ≡ Open x) ↔ (((search X).how ≡ unclosed) × (x ≡ (search X).score))
  -- a word that is out by closing in the first pass is always Sure with pass 1
  pub first : (search X).how ≡ closing 1 → a.outcome ≡ Sure (search X).score 1

-- For accepted terms from -2^a to 2^a, in units of 2^-149 (so 2^(149+k) units are 2^k): 2^(a-9) bounds what rounding loses in a word's score, and
-- twice as much what it loses between two
abbrev pub lost : ℕ → ℕ
lost a = 2 ^ (a + 149 - 9)

abbrev pub margin : ℕ → ℕ
margin a = 2 ^ (a + 149 - 8)

module _ (mode kind : ℕ) where
  -- Demand 3, a single claim about the whole read, for terms that are the whole numbers `ints`
  pub record Demand3 (ints : ℕ → ℤ) (terms : List Float) (a : Answer Float) : Type 0 where
    -- (i) word and outcome, with score and pass, are those that document 01's search gives under #107's rules
    pub given : a ≡ document_search mode kind terms
    -- (ii) handed out as closed, the score is exactly what the closed word scores,
    pub exact : HandedOutAsClosed a.outcome → Whole (score_in a.outcome) (closed whole mode kind ints a.word)
    -- which is what its encoded symbols earn: the sum over the symbols of the header sent
    pub sent : (w : ℕ) → closed whole mode kind ints w ≡ sum whole (symbol_earns whole mode kind ints w) (header_bits kind)
    -- (iii) optimal, no word beats it, and (iv) unique, by the order of the whole numbers
    pub best : BestWord whole ◌≤ℤ◌ ◌<ℤ◌ mode kind ints a

  -- For any accepted terms, with scores added as the receiver adds them: a walk's score is the f32 sum from 0.0 of what its steps earn, from the
  -- left, rounded at each step. Scores compare as Rust's <= and <.
  pub record AnyTerms (terms : List Float) (a : Answer Float) : Type 0 where
    -- the word has zeros above the last header bit
    pub short : a.word < 2 ^ header_bits kind
    -- out by closing in the first pass, the score is that of the closed word,
    pub exact : OutInFirstPass a.outcome → score_in a.outcome ≡ closed single mode kind (lent terms) a.word
    -- which is what the symbols of the header sent earn, added in the order of the steps
    pub sent : (w : ℕ) → closed single mode kind (lent terms) w
        ≡ sum single (λ j. symbol_earns single mode kind (lent terms) w (slot_of (header_bits kind) j)) (header_bits kind)
    pub best : BestWord single (λ x y. T (le x y)) (λ x y. T (lt x y)) mode kind (lent terms) a
    -- out by closing in the first pass, the ceiling is the score
    pub at-ceiling : OutInFirstPass a.outcome → a.ceiling ≡ score_in a.outcome

  -- How far f32 can be from the truth, for accepted terms from -2^a to 2^a, a from 0 to 20. `ints` are the terms in units of 2^-149, exactly, so
  -- `walk whole` is a walk's exact score in such units, with no rounding anywhere.
  pub record NearExact (a : ℕ) (ints : ℕ → ℤ) (terms : List Float) (ans : Answer Float) : Type 0 where
    -- a walk's f32 score is off from its exact score by at most 2^(a-9)
    pub near : (p w : ℕ) → Near 149 (lost a) (walk single mode kind (lent terms) p w) (walk whole mode kind ints p w)
    -- handed out as closed, in whichever pass, the score is off from the closed word's exact score by no more
    pub exact : HandedOutAsClosed ans.outcome → Near 149 (lost a) (score_in ans.outcome) (closed whole mode kind ints ans.word)
    -- out by closing in the first pass, no walk's exact score, and so no word's, is above the closed word's by more than 2^(a-8); and a closed word
    -- whose exact score is above every other walk's by more than that is handed out
    pub best : BestWord whole (λ x y. x ≤ℤ (y +ℤ pos (margin a))) (λ x y. (x +ℤ pos (margin a)) <ℤ y) mode kind ints ans
    -- whatever the outcome, no closed word's exact score is above the ceiling by more than 2^(a-9)
    pub bounded : NoneAbove (Units 149) (λ x y. x ≤ℤ (y +ℤ pos (lost a))) mode kind ints ans
    -- Sure, in whichever pass, no closed word's exact score is above its own by more than 2^(a-8)
    pub unbeaten : Unbeaten (λ x y. x ≤ℤ (y +ℤ pos (margin a))) mode kind ints ans

  -- what the header read promises of an answer, beside the equation for it
  pub record Claims (terms : List Float) (a : Answer Float) : Type 0 where
    pub whole : (ints : ℕ → ℤ) → WholeTerms 800 terms ints → Demand3 ints terms a
    pub bounded : (ints : ℕ → ℤ) → WholeTerms 800 terms ints → NoneAbove Whole ◌≤ℤ◌ mode kind ints a
    pub unbeaten : (ints : ℕ → ℤ) → WholeTerms 800 terms ints → Unbeaten ◌≤ℤ◌ mode kind ints a
    pub graded : Graded (header single mode kind (lent terms)) a
    pub any : AnyTerms terms a
    pub near : (k : ℕ) (ints : ℕ → ℤ) → k ≤ 20 → UnitTerms k terms ints → NearExact k ints terms a
