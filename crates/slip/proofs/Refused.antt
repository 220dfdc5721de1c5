-- A slip is refused by the first number of the order whose cause holds. Assumes nothing.
use Prim.Native.Nat.{ℕ}
use mathlib.Core.List.{List}
use mathlib.Core.Path.{◌≡◌, refl}
use Rattle.util.specs.Refusal.{refused, First}
use Rattle.util.proofs.First.{first}
use Rattle.slip.specs.Slips.{causes, writing, taken, read_causes, reading}
use Rattle.slip.specs.declared.Fields.{Fields}

pub write-first : (f : Fields) (room k : ℕ) → writing f room ≡ refused k → First k (causes f room)
write-first f room k e = first (causes f room) tt k refl e

pub read_first : (b : List ℕ) (k : ℕ) → reading b ≡ refused k → First k (read_causes b)
read_first b k e = first (read_causes b) (taken b) k refl e
