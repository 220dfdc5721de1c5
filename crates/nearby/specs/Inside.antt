-- How the code holds the 25 rows heard last: row i in place i modulo 25, 52 bins each, as crate `level` holds a row.
use Rattle.std.specs.Prelude.{ℕ, ◌+◌, ◌*◌, ◌%◌, ◌≤◌, ◌<◌, List, ◌≡◌, length, get_or, replicate, Float}
use Rattle.std.proofs.Math.Option.{Option}
use Rattle.std.specs.Float.{nan}
use Rattle.util.specs.Table.{Stored}
use Rattle.level.specs.Rank.{there_of}
use Rattle.level.specs.Inside.{held_at}
use Rattle.nearby.specs.Sum.{sum_of}
use Rattle.nearby.specs.declared.LastRows.{LastRows}
use Rattle.ieee.specs.Whole.{plus_zero}

-- w places from base on hold row, and every other is as it was, behind them too
pub record Put {A : Type 0} (d : A) (w base : ℕ) (row : ℕ → A) (was new : List A) : Type 0 where
  pub stored : Stored d w base row was new
  pub after : (k : ℕ) → base + w ≤ k → get_or new k d ≡ get_or was k d

-- the first w of a list went through a function of their place, and every other is as it was
pub record Each {A : Type 0} (d : A) (w : ℕ) (f : ℕ → A → A) (was new : List A) : Type 0 where
  pub size : length new ≡ length was
  pub done : (k : ℕ) → k < w → get_or new k d ≡ f k (get_or was k d)
  pub rest : (k : ℕ) → w ≤ k → get_or new k d ≡ get_or was k d

-- where the first `from` of a list had gone through a function before, the first `to` have now, and from `to` on nothing changed
pub record Onward {A : Type 0} (d : A) (from to : ℕ) (f : ℕ → A → A) (was new : List A) : Type 0 where
  pub on : (first : List A) → Each d from f first was → Each d to f first new
  pub rest : (k : ℕ) → to ≤ k → get_or new k d ≡ get_or was k d

-- the row in place n modulo 25
abbrev pub placed : List ℕ → List Float → ℕ → ℕ → Option Float
placed marks values n b = held_at marks values (52 * (n % 25)) b

-- The 25 places hold the 25 rows from n on. Row 0 has number 25, so that the rows before it have numbers too: those are missing.
pub record Nearby (row : ℕ → ℕ → Option Float) (n : ℕ) (marks : List ℕ) (values : List Float) : Type 0 where
  pub marks-long : length marks ≡ 1300
  pub values-long : length values ≡ 1300
  pub rows : (k b : ℕ) → k < 25 → b < 52 → placed marks values (n + k) b ≡ row (n + k) b

-- The bins of one row more came in place of row n: with any rows of which it is number n + 25, the places now hold those from n + 1 on.
pub record Moved (n : ℕ) (bins : ℕ → Option Float) (marks : List ℕ) (values : List Float) (marks' : List ℕ) (values' : List Float) : Type 0 where
  pub on : (row : ℕ → ℕ → Option Float) → ((b : ℕ) → b < 52 → row (n + 25) b ≡ bins b) → Nearby row n marks values → Nearby row (n + 1) marks' values'

-- the sums of every bin over m places, from place n on
pub record Summed (marks : List ℕ) (values : List Float) (n m : ℕ) (sums : List Float) : Type 0 where
  pub size : length sums ≡ 52
  pub each : (b : ℕ) → b < 52 → get_or sums b nan ≡ sum_of (λ k. placed marks values (n + k) b) m

-- how many of them have each bin
pub record Counted (marks : List ℕ) (values : List Float) (n m : ℕ) (counts : List ℕ) : Type 0 where
  pub size : length counts ≡ 52
  pub each : (b : ℕ) → b < 52 → get_or counts b 0 ≡ there_of (λ k. placed marks values (n + k) b) m

-- no row heard yet: every bin of all 25 is missing
abbrev pub no_rows : LastRows
no_rows = record { marks = replicate 1300 0; values = replicate 1300 plus_zero }
