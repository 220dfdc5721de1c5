-- The table as a whole: one test of all its entries, by squares of whole numbers, and what it says; and that entries which are nearest are the
-- roots worked out, since of a count only one f32 is nearest. Laws of any table; the code's own is put to the test where its function is proved.
-- Assumes nothing.
use Prim.Native.Nat.{ℕ, suc, ◌*◌, ◌/◌, ◌-◌, ◌^◌, ◌≤◌}
use mathlib.Core.Bool.{Bool}
use mathlib.Core.List.{List}
use mathlib.Core.Path.{◌≡◌, ap, subst, ◌∙◌}
use native.Mathlib.Omega.{arith}
use lib.Dec.{T}
use lib.ListN.{length, get_or}
use lib.Ieee.{Float, nan}
use lib.Ieee.Positive.{num, den}
use Rattle.util.proofs.Fill.{tabled-at, tabled-only}
use Rattle.root.specs.Root.{finest, root_of, NearestRoot}
use Rattle.root.proofs.Sound.{rounds, rounded, nearest-of}
use Rattle.root.proofs.Nearest.{up_to, at, nearest}
use Rattle.root.proofs.Only.{only}
use Rattle.root_table.specs.Table.{NearestRoots, roots_of}

-- a value in the units in which √n is worked out
abbrev units : ℕ → Float → ℕ
units n x = num x * 2 ^ finest n / den x

-- the entry for n is so many units, and that many is the whole number nearest √n in them
abbrev pub passes : List Float → ℕ → Bool
passes table n =
    let x = get_or table (n - 1) nan in
    rounds n (units n x) (finest n) x

pub all-nearest : (table : List Float) → length table ≡ 52 → T (up_to (passes table) 52) → NearestRoots table
all-nearest table e t =
    record {
      size = e;
      each = λ n l h.
          let x = get_or table (n - 1) nan in
          nearest-of n (units n x) (finest n) x (rounded n (units n x) (finest n) x (at (passes table) 52 n t l h));
    }

-- place n - 1, for n = k + 1
place : (k : ℕ) → suc k - 1 ≡ k
place k = omega arith

pub worked-out : (table : List Float) → NearestRoots table → table ≡ roots_of
unfolding roots_of
worked-out table near =
    tabled-only 52 (λ k. root_of (suc k)) nan table near.size
    (λ k h.
    only (suc k) (get_or table k nan) (root_of (suc k))
    (subst (λ (i : ℕ). NearestRoot (suc k) (get_or table i nan)) (place k) (near.each (suc k) (omega arith) (omega arith)))
    (nearest (suc k) (omega arith) (omega arith)))

-- what a caller reads in it for a count
pub entry : (table : List Float) (n : ℕ) → table ≡ roots_of → 1 ≤ n → n ≤ 52 → get_or table (n - 1) nan ≡ root_of n
unfolding roots_of
entry table n e l h =
    let back : suc (n - 1) ≡ n = omega arith in
    ap (λ (t : List Float). get_or t (n - 1) nan) e ∙ tabled-at 52 (n - 1) (λ k. root_of (suc k)) nan (omega arith) ∙ ap root_of back
