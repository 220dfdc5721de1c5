-- A slip is refused by the first number of the order whose cause holds. Assumes nothing.
use Prim.Native.Nat.{ℕ}
use mathlib.Core.List.{List}
use mathlib.Core.Path.{◌≡◌, refl}
use Rattle.util.specs.Refusal.{refused, First}
use Rattle.util.proofs.First.{first}
use Rattle.board.specs.Putting.{causes, putting}

pub put_first : (b : List ℕ) (count : ℕ) (s : List ℕ) (k : ℕ) → putting b count s ≡ refused k → First k (causes b count s)
put_first b count s k e = first (causes b count s) tt k refl e
