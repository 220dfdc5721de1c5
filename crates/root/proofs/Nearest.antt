-- `root_of n` is the f32 nearest √n for the counts 1 to 52, and lies from 1 to 8: what `Sound` asks is computed at each count. Assumes nothing.
use Prim.Native.Nat.{ℕ, zero, suc, ◌*◌, ◌^◌, ◌≤◌, ◌<◌}
use mathlib.Core.Bool.{Bool, true, false, ◌&&◌}
use mathlib.Core.Path.{◌≡◌, subst}
use native.Mathlib.Omega.{arith}
use lib.Dec.{T}
use lib.IntN.{pos}
use lib.Ieee.{Float, fin, div, of_int, le, fits}
use lib.Ieee.Fits.{and_l, and_r}
use Rattle.ieee.specs.Within.{Within}
use Rattle.ieee.proofs.Integers.{by-test}
use Rattle.root.specs.Root.{digits, whole_root, finest, root_of, NearestRoot}
use Rattle.root.proofs.Sound.{rounds, rounded, nearest-of}

-- ---- a test of every count from k down to 1
unfoldable pub up_to : (ℕ → Bool) → ℕ → Bool
up_to test zero = true
up_to test (suc k) = test (suc k) && up_to test k

pub at : (test : ℕ → Bool) (k n : ℕ) → T (up_to test k) → 1 ≤ n → n ≤ k → T (test n)
unfolding up_to
at test zero n t l h = absurd (omega arith)
at test (suc k) n t l h =
    by-test n (suc k) (λ (b : n < suc k). at test k n (and_r (test (suc k)) (up_to test k) t) l (omega arith))
    (λ (b : suc k ≤ n). subst (λ (i : ℕ). T (test i)) (same n k h b) (and_l (test (suc k)) (up_to test k) t))
  where
    same : (n k : ℕ) → n ≤ suc k → suc k ≤ n → suc k ≡ n
    same n k h b = omega arith

-- ---- what is computed at a count
abbrev pub one : Float
one = fin false 1 (pos 0)

abbrev pub eight : Float
eight = fin false 1 (pos 3)

abbrev near : ℕ → Bool
near n = rounds n (whole_root (n * 4 ^ finest n)) (finest n) (root_of n)

abbrev between : ℕ → Bool
between n = le one (root_of n) && le (root_of n) eight

computed : T (up_to (λ n. near n && between n) 52)
unfolding up_to digits whole_root root_of div of_int fits le
computed = tt

-- ---- what it says
pub nearest : (n : ℕ) → 1 ≤ n → n ≤ 52 → NearestRoot n (root_of n)
nearest n l h =
    let M = whole_root (n * 4 ^ finest n) in
    nearest-of n M (finest n) (root_of n)
    (rounded n M (finest n) (root_of n) (and_l (near n) (between n) (at (λ n. near n && between n) 52 n computed l h)))

pub root_in : (n : ℕ) → 1 ≤ n → n ≤ 52 → Within one eight (root_of n)
root_in n l h =
    let e = and_r (near n) (between n) (at (λ n. near n && between n) 52 n computed l h) in
    record { from = and_l (le one (root_of n)) (le (root_of n) eight) e; to = and_r (le one (root_of n)) (le (root_of n) eight) e }
