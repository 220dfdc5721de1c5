-- What is lent to the work inside.
use Rattle.std.specs.Prelude.{ℕ, ◌+◌, ◌*◌, ◌-◌, ◌≤◌, ◌<◌, ◌&&◌, List, ◌≡◌, leb, ltb, length, get_or, Float}
use Rattle.std.proofs.Math.Option.{Option, none}
use Rattle.std.specs.Float.{nan, binary32}
use Rattle.std.specs.Float.Ieee.{div}
use Rattle.util.specs.Choose.{choose}
use Rattle.root.specs.Root.{root_of}
use Rattle.level.specs.Level.{three}
use Rattle.nearby.specs.Inside.{Nearby}
use Rattle.noise.specs.Local.{Burst, read_of, held, two_errors}

-- row n of a burst as crate `nearby` numbers them: row 0 has number 25, and a row that there is not is missing
unfoldable pub numbered : Burst → ℕ → ℕ → Option Float
numbered a n b = choose (leb 25 n && ltb n (a.rows + 25)) (held a (n - 25) b) none

-- the lists of a burst have its lengths
pub record Lent (rows energies noise : ℕ) : Type 0 where
  pub few : rows ≤ 2048
  pub energies-long : energies ≡ 52 * rows
  pub noise-long : noise ≡ 52

-- two standard errors by the count, where the count is of use
pub record Errors (errors : List Float) : Type 0 where
  pub size : length errors ≡ 26
  pub each : (c : ℕ) → 1 ≤ c → c ≤ 25 → get_or errors c nan ≡ two_errors c

-- what row i's factors are made of: the 25 rows around it, the bins that are read, and what is taken off its level
pub record Ready (a : Burst) (i : ℕ) (marks : List ℕ) (values : List Float) (read : ℕ) (less : Float) : Type 0 where
  pub nearby : Nearby (numbered a) (i + 13) marks values
  pub there : i < a.rows
  pub read_is : read ≡ read_of a
  pub less-is : less ≡ div binary32 three (root_of (read - 5))
