-- Local noise is refused by the first number of the order whose cause holds: 1, then 4, then 15. Assumes nothing.
use Prim.Native.Nat.{ℕ}
use mathlib.Core.Path.{◌≡◌, refl}
use Rattle.util.specs.Refusal.{refused, First}
use Rattle.util.proofs.First.{first}
use Rattle.noise.specs.Entry.{Asked, causes, noise_answer}

pub noise-first : (a : Asked) (lent k : ℕ) → noise_answer a lent ≡ refused k → First k (causes a lent)
noise-first a lent k e = first (causes a lent) tt k refl e
