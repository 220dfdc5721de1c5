-- The fit is refused by the first number of the order whose cause holds. Assumes nothing.
use Prim.Native.Nat.{ℕ}
use mathlib.Core.List.{List}
use mathlib.Core.Path.{◌≡◌, refl}
use lib.ListN.{length}
use Rattle.util.specs.Refusal.{refused, First, NoneBelow}
use Rattle.util.proofs.First.{first}
use Rattle.frame.specs.Format.{format_of}
use Rattle.blocks.specs.declared.Block.{Block}
use Rattle.fit.specs.Fit.{fit_blocks, good_blocks, fit_causes, fit_answer}

pub fit-first : (mode : ℕ) (bs : List Block) (k : ℕ) → fit_answer mode bs ≡ refused k → First k (fit_causes mode (good_blocks (length bs) bs))
fit-first mode bs k e = first (fit_causes mode (good_blocks (length bs) bs)) (fit_blocks (format_of mode).symbol (length bs) bs) k refl e

-- and by the lowest, as document 01 says: its causes' numbers rise
pub fit-lowest : (mode : ℕ) (bs : List Block) (k : ℕ) → fit_answer mode bs ≡ refused k → NoneBelow k (fit_causes mode (good_blocks (length bs) bs))
fit-lowest mode bs k e = (fit-first mode bs k e).lowest refl
