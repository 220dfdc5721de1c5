-- Document 02, #109: the table of the 52 roots. `NearestRoots` says what its entries are, however they were found; `roots_of` is the list of the
-- roots that crate `root` works out.
use Rattle.std.specs.Prelude.{ℕ, suc, ◌-◌, ◌≤◌, List, ◌≡◌, length, get_or, Float}
use Rattle.std.specs.Float.{nan}
use Rattle.util.specs.Table.{tabled}
use Rattle.root.specs.Root.{root_of, NearestRoot}

-- 52 entries, and for every count from 1 to 52 the entry at place n - 1 is the f32 nearest √n
pub record NearestRoots (table : List Float) : Type 0 where
  pub size : length table ≡ 52
  pub each : (n : ℕ) → 1 ≤ n → n ≤ 52 → NearestRoot n (get_or table (n - 1) nan)

-- the roots worked out, of 1, of 2 and so on to 52
unfoldable pub roots_of : List Float
roots_of = tabled 52 (λ k. root_of (suc k))
