-- Whether block i is in range is the same in two lists that agree that far. Assumes nothing.
use Prim.Native.Nat.{ℕ, zero, suc, ◌+◌, ◌<◌}
use mathlib.Core.Bool.{◌&&◌}
use mathlib.Core.List.{List}
use mathlib.Core.Path.{◌≡◌, refl, ap}
use native.Mathlib.Omega.{arith}
use lib.Dec.{leb}
use lib.ListN.{get_or}
use Rattle.blocks.specs.Doubles.{as_f64, within}
use Rattle.blocks.specs.Blocks.{nowhere, place2_at, before, good_at}
use Rattle.blocks.specs.declared.Block.{Block}

before_same : (p q : ℕ → ℕ) (i : ℕ) → ((j : ℕ) → j < i → p j ≡ q j) → before p i ≡ before q i
before_same p q zero h = refl
before_same p q (suc j) h = h j (omega arith)

pub good-same : (bs bs' : List Block) (i : ℕ) → ((j : ℕ) → j < i + 1 → get_or bs j nowhere ≡ get_or bs' j nowhere) → good_at bs i ≡ good_at bs' i
good-same bs bs' i e = λ k.
    leb (before_same (place2_at bs) (place2_at bs') i (λ j h. ap (λ (b : Block). b.place2) (e j (omega arith))) k) (e i (omega arith) k).place2
    && (leb (e i (omega arith) k).place2 4096 && within (as_f64 4096) (e i (omega arith) k).timing)
