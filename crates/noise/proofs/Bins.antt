-- The factors of a row, bin by bin: from the code's sums, counts and errors to the definition's. Assumes nothing.
use Prim.Native.Nat.{ℕ, ◌+◌, ◌*◌, ◌-◌, ◌/◌, ◌%◌, ◌≤◌, ◌<◌}
use mathlib.Core.Bool.{true}
use mathlib.Core.List.{List}
use mathlib.Core.Logic.{⊎_elim}
use mathlib.Core.Path.{◌≡◌, refl, sym, ap, ap₂, ◌∙◌}
use native.Mathlib.Omega.{arith}
use borrow.Author.Tests.{leb-true, lt-ltb, le-ltb}
use lib.Dec.{leb, ltb, lit<}
use lib.IntN.{pos}
use lib.ListN.{get_or}
use lib.Ieee.{Float, nan, binary32, of_int, sub, div}
use Rattle.util.specs.Choose.{choose}
use Rattle.util.proofs.Choose.{chosen, not_chosen, choose-same}
use Rattle.util.specs.Table.{rows}
use Rattle.util.proofs.Fill.{below_or_not, rows_more, rows_at}
use Rattle.ieee.specs.Within.{larger}
use Rattle.level.specs.Rank.{there_of, of_rank}
use Rattle.level.specs.Level.{one, level_from, level_of}
use Rattle.level.specs.Inside.{held_at}
use Rattle.level.proofs.Turns.{Passed}
use Rattle.level.proofs.Counting.{count_same, count_most, rank_same}
use Rattle.nearby.specs.Sum.{sum_of}
use Rattle.nearby.specs.Inside.{Put, placed, Summed, Counted}
use Rattle.nearby.proofs.Rows.{sum_same}
use Rattle.noise.specs.Local.{Burst, read_of, held, around, two_errors, bin_level, factor_from, factor_at}
use Rattle.noise.specs.Inside.{Errors, Ready}
use Rattle.noise.proofs.Shown.{numbered-in, around-is, level-is}

-- ---- a factor: the error of a count below 6 is of no use
pub factor-same : (sum : Float) (count : ℕ) (empty less less' level : Float) → (6 ≤ count → less ≡ less')
    → factor_from sum count empty less level ≡ factor_from sum count empty less' level
unfolding factor_from bin_level
factor-same sum count empty less less' level e =
    let mean = div binary32 (div binary32 sum (of_int binary32 (pos count))) empty in
    ap (λ (x : Float). larger (larger x level) one)
    (choose-same (leb 6 count) (sub binary32 mean less) (sub binary32 mean less') one one (λ t. ap (sub binary32 mean) (e (leb-true 6 count t))) (λ f. refl))

-- ---- a row of factors, 1 beyond the bins that are read
pub passed-all : (f : ℕ → Float) (read : ℕ) (out : List Float) → Passed nan one f read out → (b : ℕ) → b < 52 → get_or out b nan ≡ choose (ltb b read) (f b) one
passed-all f read out p b h =
    ⊎_elim (λ l. p.done b l ∙ sym (chosen (f b) one (lt-ltb b read l))) (λ l. p.rest b l h ∙ sym (not_chosen (f b) one (le-ltb b read l)))
    (below_or_not b read)

-- ---- from the 25 places to the definition
module _ (a : Burst) (i : ℕ) (marks : List ℕ) (values : List Float) (read : ℕ) (less : Float) (ready : Ready a i marks values read less) where
  cell : (b k : ℕ) → b < 52 → k < 25 → placed marks values (i + 13 + k) b ≡ around a i b k
  cell b k h l = ready.nearby.rows k b l h ∙ around-is a b i k

  sum_is : (sums : List Float) → Summed marks values (i + 13) 25 sums → (b : ℕ) → b < 52 → get_or sums b nan ≡ sum_of (around a i b) 25
  sum_is sums s b h = s.each b h ∙ sum_same (λ k. placed marks values (i + 13 + k) b) (around a i b) 25 (λ k l. cell b k h l)

  count-is : (counts : List ℕ) → Counted marks values (i + 13) 25 counts → (b : ℕ) → b < 52 → get_or counts b 0 ≡ there_of (around a i b) 25
  count-is counts s b h =
      s.each b h ∙ count_same (λ k. placed marks values (i + 13 + k) b) (around a i b) (λ x. true) 25 (λ k l. cell b k h l)

  -- row i itself is the 13th of them
  own : (b : ℕ) → b < 52 → held_at marks values (52 * (i % 25)) b ≡ held a i b
  own b h =
      let place : i % 25 ≡ (i + 13 + 12) % 25 = omega arith in
      let row : i + 13 + 12 - 25 ≡ i = omega arith in
      ap (λ (p : ℕ). held_at marks values (52 * p) b) place ∙ ready.nearby.rows 12 b (lit< tt) h
      ∙ numbered-in a b (i + 13 + 12) (omega arith) (omega (arith, ready.there)) ∙ ap (λ (n : ℕ). held a n b) row

  own-level : read ≤ 52 → (level : Float) → level ≡ level_from (of_rank (held_at marks values (52 * (i % 25))) read ((read - 5) / 2)) less
      → level ≡ level_of (held a i) (read_of a)
  own-level few level e =
      e ∙ ap₂ level_from (rank_same (held_at marks values (52 * (i % 25))) (held a i) read ((read - 5) / 2) (λ b h. own b (omega arith))) ready.less-is
      ∙ sym (level-is a i read ready.read_is)

  pub factors-are : (sums errors out : List Float) (counts : List ℕ) (empty level : Float) → read ≤ 52 → Summed marks values (i + 13) 25 sums
      → Counted marks values (i + 13) 25 counts → Errors errors
      → level ≡ level_from (of_rank (held_at marks values (52 * (i % 25))) read ((read - 5) / 2)) less
      → ((b : ℕ) → b < 52 → get_or out b nan
      ≡ choose (ltb b read) (factor_from (get_or sums b nan) (get_or counts b 0) empty (get_or errors (get_or counts b 0) nan) level) one)
      → (b : ℕ) → b < 52 → get_or out b nan ≡ factor_at a empty i b
  unfolding factor_at
  factors-are sums errors out counts empty level few s c err l is b h =
      let n = there_of (around a i b) 25 in
      let used : 6 ≤ n → get_or errors n nan ≡ two_errors n = λ m. err.each n (omega arith) (count_most (λ x. true) (around a i b) 25) in
      is b h
      ∙ ap₂ (λ (r : ℕ) (x : Float). choose (ltb b r) x one) ready.read_is
      (ap₂ (λ (x : Float) (k : ℕ). factor_from x k empty (get_or errors k nan) level) (sum_is sums s b h) (count-is counts c b h)
      ∙ factor-same (sum_of (around a i b) 25) n empty (get_or errors n nan) (two_errors n) level used
      ∙ ap (factor_from (sum_of (around a i b) 25) n empty (two_errors n)) (own-level few level l))

-- ---- the rows of factors before row i, and row i
pub rows_made : (a : Burst) (empty : Float) (i : ℕ) (was new : List Float) → Put nan 52 (52 * i) (factor_at a empty i) was new
    → ((k : ℕ) → k < 52 * i → get_or was k nan ≡ rows 52 (factor_at a empty) k) → (k : ℕ) → k < 52 * (i + 1) → get_or new k nan ≡ rows 52 (factor_at a empty) k
rows_made a empty i was new put before =
    rows_more nan 52 i (rows 52 (factor_at a empty)) (factor_at a empty i) was new put.stored
    (λ k h. sym (rows_at 52 i k (factor_at a empty) h)) before
