-- Below 6 blocks the drift is 0.0: by the first test of the fit. Assumes nothing.
use Prim.Native.Nat.{ℕ, ◌<◌}
use mathlib.Core.Bool.{true}
use mathlib.Core.List.{List}
use mathlib.Core.Path.{◌≡◌}
use native.Mathlib.Omega.{arith}
use borrow.Author.Tests.{lt-ltb, le-ltb}
use lib.ListN.{length}
use Rattle.ieee.specs.Whole.{plus_zero}
use Rattle.util.specs.Refusal.{accepted}
use Rattle.frame.specs.Format.{format_of}
use Rattle.blocks.specs.declared.Block.{Block}
use Rattle.fit.specs.Fit.{fit_of, fit_blocks, good_blocks, fit_answer}

pub few-blocks : (symbol n : ℕ) (bs : List Block) → n < 6 → fit_blocks symbol n bs ≡ plus_zero
unfolding fit_of
few-blocks symbol n bs h = simp (lt-ltb n 6 h)

-- ★ five blocks: drift 0.0
pub five-blocks : (mode : ℕ) (bs : List Block) → mode < 2 → length bs ≡ 5 → good_blocks (length bs) bs ≡ true → fit_answer mode bs ≡ accepted plus_zero
five-blocks mode bs m l g = simp (le-ltb 1 mode (omega arith), g, few-blocks (format_of mode).symbol (length bs) bs (omega arith))
