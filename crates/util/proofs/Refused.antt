-- The multiplier is refused by the first number of the order whose cause holds.
-- Assumes nothing.
use Rattle.std.proofs.Common.{◌≡◌, ℕ, refl}
use Rattle.util.specs.Refusal.{refused, First, NoneBelow}
use Rattle.util.specs.Multiplier.{causes, mult_of, multiplier}
use Rattle.util.proofs.First.{first}

pub multiplier-first : (n k : ℕ) → multiplier n ≡ refused k → First k (causes n)
multiplier-first n k e = first (causes n) (mult_of n) k refl e

-- and by the lowest, as document 01 says: its causes' numbers rise
pub multiplier-lowest : (n k : ℕ) → multiplier n ≡ refused k → NoneBelow k (causes n)
multiplier-lowest n k e = (multiplier-first n k e).lowest refl
