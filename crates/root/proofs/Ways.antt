-- The three ways through `root`: which power of 2 the digits end at, and that what comes out is `root_of`. Assumes nothing.
use Prim.Native.Nat.{ℕ, ◌*◌, ◌^◌, ◌<◌, ◌≤◌}
use mathlib.Core.Path.{◌≡◌, sym, ap, ◌∙◌}
use borrow.Author.Tests.{lt-ltb, le-ltb}
use native.Mathlib.Omega.{arith}
use lib.Dec.{ltb}
use lib.IntN.{pos}
use lib.Ieee.{binary32, of_bits, of_int, div}
use Rattle.util.specs.Choose.{choose}
use Rattle.util.proofs.Choose.{chosen, not_chosen}
use Rattle.root.specs.Root.{whole_root, finest, root_of}

pub low : (n : ℕ) → n < 4 → finest n ≡ 23
low n h = chosen 23 (choose (ltb n 16) 22 21) (lt-ltb n 4 h)

pub middle : (n : ℕ) → 4 ≤ n → n < 16 → finest n ≡ 22
middle n l h = not_chosen 23 (choose (ltb n 16) 22 21) (le-ltb n 4 l) ∙ chosen 22 21 (lt-ltb n 16 h)

pub high : (n : ℕ) → 16 ≤ n → finest n ≡ 21
high n h = not_chosen 23 (choose (ltb n 16) 22 21) (le-ltb n 4 (omega arith)) ∙ not_chosen 22 21 (le-ltb n 16 h)

pub way : (n j m : ℕ) → finest n ≡ j → m ≡ whole_root (n * 4 ^ j) → div binary32 (of_int binary32 (pos m)) (of_int binary32 (pos (2 ^ j))) ≡ root_of n
unfolding root_of
way n j m e q =
    ap (λ (k : ℕ). div binary32 (of_int binary32 (pos k)) (of_int binary32 (pos (2 ^ j)))) q
    ∙ ap (λ (i : ℕ). div binary32 (of_int binary32 (pos (whole_root (n * 4 ^ i)))) (of_int binary32 (pos (2 ^ i)))) (sym e)

-- each way as the code goes it: the divisors 8388608.0, 4194304.0 and 2097152.0 by their bits
pub low_way : (n m : ℕ) → n < 4 → m ≡ whole_root (n * 0x4000_0000_0000)
    → div binary32 (of_int binary32 (pos m)) (of_bits binary32 0x4B00_0000) ≡ root_of n
unfolding of_bits of_int
low_way n m h q = way n 23 m (low n h) q

pub middle_way : (n m : ℕ) → 4 ≤ n → n < 16 → m ≡ whole_root (n * 0x1000_0000_0000)
    → div binary32 (of_int binary32 (pos m)) (of_bits binary32 0x4A80_0000) ≡ root_of n
unfolding of_bits of_int
middle_way n m l h q = way n 22 m (middle n l h) q

pub high_way : (n m : ℕ) → 16 ≤ n → m ≡ whole_root (n * 0x400_0000_0000)
    → div binary32 (of_int binary32 (pos m)) (of_bits binary32 0x4A00_0000) ≡ root_of n
unfolding of_bits of_int
high_way n m h q = way n 21 m (high n h) q
