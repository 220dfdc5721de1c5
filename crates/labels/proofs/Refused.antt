-- A table is refused by the first number of the order whose cause holds. Assumes nothing.
use Prim.Native.Nat.{ℕ}
use mathlib.Core.Path.{◌≡◌, refl}
use Rattle.util.specs.Refusal.{refused, First}
use Rattle.util.proofs.First.{first}
use Rattle.labels.specs.Labels.{causes, fill_answer}

pub fill-first : (room k : ℕ) → fill_answer room ≡ refused k → First k (causes room)
fill-first room k e = first (causes room) tt k refl e
