-- How the code holds rows: the values in one list, a mark for each in another, 1 where it is there and 0 where it is
-- missing; a row's bins stand in both from `base` on.
use Rattle.std.specs.Prelude.{ℕ, ◌+◌, ◌≤◌, true, false, List, ◌≡◌, eqb, length, get_or, Float}
use Rattle.std.proofs.Math.Option.{Option, none, some}
use Rattle.std.specs.Float.{nan}
use Rattle.std.specs.Float.Ieee.{le}
use Rattle.util.specs.Choose.{choose}
use Rattle.level.specs.Row.{is_around}
use Rattle.level.specs.Rank.{passes, ranks}
use Rattle.level.specs.declared.Lies.{Lies}
use Rattle.level.specs.declared.Lies.TheVariants.{There, Low, High}

-- the mark of bin b, the strongest tone being at place e
abbrev pub mark_of : ℕ → ℕ → ℕ
mark_of e b = choose (is_around e b) 0 1

unfoldable pub held_at : List ℕ → List Float → ℕ → ℕ → Option Float
held_at marks values base b = choose (eqb (get_or marks (base + b) 0) 1) (some (get_or values (base + b) nan)) none

-- the lists reach as far as the row's first n bins, of which there are at most 52
pub record Row (marks : List ℕ) (values : List Float) (base n : ℕ) : Type 0 where
  pub few : n ≤ 52
  pub marks-long : base + n ≤ length marks
  pub values-long : base + n ≤ length values

-- no value up to low has rank k among the first n, nor any from high on
pub record Fenced (held : ℕ → Option Float) (n k : ℕ) (low high : Float) : Type 0 where
  pub under : (x : Float) → le x low ≡ true → ranks held n k x ≡ false
  pub over : (x : Float) → le high x ≡ true → ranks held n k x ≡ false

-- what is told of bin b: `There` that it has rank k, any other that it has not; `Low` that no value up to its own has, `High` that none
-- from its own on has
pub record Side (marks : List ℕ) (values : List Float) (base n k b : ℕ) (r : Lies) : Type 0 where
  pub here : r ≡ There → passes (ranks (held_at marks values base) n k) (held_at marks values base b) ≡ true
  pub not-here : (r ≡ There → ⊥) → passes (ranks (held_at marks values base) n k) (held_at marks values base b) ≡ false
  pub low : r ≡ Low → (x : Float) → le x (get_or values (base + b) nan) ≡ true → ranks (held_at marks values base) n k x ≡ false
  pub high : r ≡ High → (x : Float) → le (get_or values (base + b) nan) x ≡ true → ranks (held_at marks values base) n k x ≡ false
