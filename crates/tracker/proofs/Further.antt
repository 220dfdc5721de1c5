-- Symbols and blocks counted, for either block length; and the rule's tests as the code groups them. Assumes nothing.
use Prim.Native.Nat.{ℕ, ◌-◌, ◌/◌, ◌%◌, ◌<◌, ◌≤◌}
use mathlib.Core.Bool.{Bool, true, false, not, ◌&&◌, ◌||◌, or-true, not-not}
use mathlib.Core.Logic.{⊎_elim}
use mathlib.Core.Path.{◌≡◌, refl, sym}
use native.Mathlib.Nat.{eq-or-lt_of_le, mod-lt, ne_of_lt}
use native.Mathlib.Omega.{arith}
use borrow.Author.Tests.{eq-eqb, ne_eqb, le-leb, lt-leb}
use lib.Dec.{leb, eqb}
use Rattle.util.specs.Choose.{choose}
use Rattle.frame.specs.Format.{r0, r1, format_of}
use Rattle.tracker.specs.Rule.{block_length, waiting, in_whole_blocks}

-- a block has symbols
pub length-positive : (mode : ℕ) → 0 < block_length mode
length-positive mode = by (eqb mode 0)
  where
    by : (t : Bool) → 0 < choose t 32 64
    by true = omega arith
    by false = omega arith

-- and few enough blocks
pub count-below : (mode n : ℕ) → n ≤ 2048 → in_whole_blocks mode n / block_length mode ≤ 63
count-below mode n h = by (eqb mode 0)
  where
    by : (t : Bool) → (n - 2 - (n - 2) % choose t 32 64) / choose t 32 64 ≤ 63
    by true = omega arith
    by false = omega arith

pub length-few : (mode : ℕ) → block_length mode ≤ 64
length-few mode = by (eqb mode 0)
  where
    by : (t : Bool) → choose t 32 64 ≤ 64
    by true = omega arith
    by false = omega arith

pub symbol-sized : (mode : ℕ) → (16 ≤ (format_of mode).symbol) × ((format_of mode).symbol ≤ 224)
symbol-sized mode = by (eqb mode 0)
  where
    by : (t : Bool) → (16 ≤ (choose t r0 r1).symbol) × ((choose t r0 r1).symbol ≤ 224)
    by true = (omega arith, omega arith)
    by false = (omega arith, omega arith)

pub waiting-below : (mode n : ℕ) → waiting mode n < block_length mode
waiting-below mode n = mod-lt (n - 2) (length-positive mode)

-- the rule's tests as the code groups them, while a call is left
pub kept-is : (n : ℕ) (c p d s k e : Bool) → n < 2048
    → not (eqb n 2048 || not (leb n 2048 && (c && (p && (d && (s && (k && e))))))) ≡ c && (p && (d && (s && k) && e))
kept-is n c p d s k e h =
    simp (ne_eqb n 2048 (ne_of_lt h), le-leb n 2048 (omega arith), not-not, regroup d s k e)
  where
    regroup : (d s k e : Bool) → d && (s && (k && e)) ≡ d && (s && k) && e
    regroup true true k e = refl
    regroup true false k e = refl
    regroup false s k e = refl

pub kept-over : (n : ℕ) (x : Bool) → 2048 ≤ n → not (eqb n 2048 || not (leb n 2048 && x)) ≡ false
kept-over n x h = ⊎_elim (λ e. simp (eq-eqb n 2048 (sym e))) (λ l. simp (lt-leb n 2048 l, or-true)) (eq-or-lt_of_le h)
