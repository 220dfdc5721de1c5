-- A table that keeps to the parity rule: it is one table, and the test by halves finds it out. Assumes nothing.
use Prim.Native.Nat.{ℕ, suc, ◌+◌, ◌*◌, ◌^◌, ◌<◌, ◌≤◌}
use mathlib.Core.Bool.{Bool, true, false, true≢false, ◌&&◌}
use mathlib.Core.List.{List}
use mathlib.Core.Logic.{⊎_elim}
use mathlib.Core.Path.{◌≡◌, refl, sym, ap, subst, ◌∙◌}
use native.Mathlib.Nat.{lt_irrefl, eq-or-lt_of_le}
use native.Mathlib.Omega.{arith}
use borrow.Author.Tests.{eqb-true, eq-eqb}
use lib.Bits.{bit_xor}
use lib.Count.{ones_in}
use lib.Dec.{eqb}
use lib.ListN.{length, get_or, set}
use lib.Pow.{pow_mono, pow_pos}
use lib.Seq.{get_or-set_same}
use Rattle.util.specs.Every.{every}
use Rattle.util.proofs.Every.{every-next, every-all, every-at, every-fails}
use Rattle.util.proofs.Fill.{tabled-length, tabled-at, tabled-only}
use Rattle.conv.specs.Label.{label_of}
use Rattle.conv.proofs.Linear.{label-power, computed, label-computed}
use Rattle.labels.specs.Labels.{all_labels, keeps_at, labelled, Labels, Adds}

-- ---- by halves

-- how many entries there are below: a power of two, 32,768 at last
pub record Power (half k : ℕ) : Type 0 where
  pub is : half ≡ 2 ^ k
  pub few : k ≤ 15

pub power-one : Power 1 0
power-one = record { is = refl; few = omega arith }

module _ {half k : ℕ} (p : Power half k) where
  -- short of all of them it is one of the fifteen below
  short : half < 32768 → k < 15
  short h = ⊎_elim (λ e. absurd (lt_irrefl 32768 (subst (λ (n : ℕ). n < 32768) (p.is ∙ ap (λ (n : ℕ). 2 ^ n) e) h))) (λ l. l) (eq-or-lt_of_le p.few)

  pub power-next : half < 32768 → Power (half * 2) (suc k)
  power-next h = record { is = omega (arith, p.is); few = short h }

  pub power-half : half < 32768 → half ≤ 16384
  power-half h = let l = short h in omega (arith, p.is, pow_mono {i = k} {j = 14} (omega arith))

  pub power-whole : 32768 ≤ half → half ≡ 32768
  power-whole h = omega (arith, p.is, pow_mono {i = k} {j = 15} p.few)

  -- and there is at least one
  pub power_pos : 0 < half
  power_pos = omega (arith, p.is, pow_pos k)

  -- each adds its own label
  pub adds : {by : ℕ} → by ≡ label_of half → Adds half by
  adds e r h = let is = p.is in ap (λ (n : ℕ). label_of (n + r)) is ∙ label-power k r (omega (arith, is)) ∙ ap (bit_xor (label_of r)) (ap label_of (sym is) ∙ sym e)

-- one entry further, by the entry that lies `half` below
module _ (table : List ℕ) (half by i : ℕ) (more : Adds half by) (below : i < half) where
  -- whether it is that entry, another by `by`, and whether it is its register's label, is the same where all before are labels
  by-lower : (t : Bool) → every (half + i) (keeps_at table) ≡ t
      → (t && eqb (get_or table (half + i) 0) (bit_xor (get_or table i 0) by)) ≡ (t && keeps_at table (half + i))
  by-lower true q =
      let lower : get_or table i 0 ≡ label_of i = eqb-true _ _ (every-at (keeps_at table) (half + i) i (omega arith) q) in
      ap (eqb (get_or table (half + i) 0)) (ap (λ (x : ℕ). bit_xor x by) lower ∙ sym (more i below))
  by-lower false q = refl

  pub kept-further : {kept : Bool} → kept ≡ every (half + i) (keeps_at table)
      → (kept && eqb (get_or table (half + i) 0) (bit_xor (get_or table i 0) by)) ≡ every (half + (i + 1)) (keeps_at table)
  kept-further e =
      let next : half + i + 1 ≡ half + (i + 1) = omega arith in
      ap (λ (t : Bool). t && eqb (get_or table (half + i) 0) (bit_xor (get_or table i 0) by)) e
      ∙ by-lower (every (half + i) (keeps_at table)) refl
      ∙ sym (every-next (keeps_at table) (half + i))
      ∙ ap (λ (n : ℕ). every n (keeps_at table)) next

-- ---- the first entry

label-none : label_of 0 ≡ 0
unfolding computed ones_in
label-none = label-computed 0

pub first-kept : (table : List ℕ) → eqb (get_or table 0 0) 0 ≡ every 1 (keeps_at table)
unfolding every
first-kept table = ap (eqb (get_or table 0 0)) (sym label-none)

pub first-filled : (table : List ℕ) → 0 < length table → Labels 1 (set table 0 0)
first-filled table room r h =
    let none : r ≡ 0 = omega arith in
    rw none (get_or-set_same table 0 0 0 room ∙ sym label-none)

-- ---- the whole table

module _ (table : List ℕ) where
  pub labelled-at : labelled table ≡ true → Labels 32768 table
  unfolding labelled
  labelled-at e r h = eqb-true _ _ (every-at (keeps_at table) 32768 r h e)

  pub labelled-where : Labels 32768 table → labelled table ≡ true
  unfolding labelled
  labelled-where e = every-all (keeps_at table) 32768 (λ r h. eq-eqb _ _ (e r h))

  -- no other table of its length is so
  pub labels-only : length table ≡ 32768 → Labels 32768 table → table ≡ all_labels
  unfolding all_labels
  labels-only size e = tabled-only 32768 label_of 0 table size e

  -- one entry off the rule is found out, and where it is said that one is, there is one
  pub off : (r : ℕ) → r < 32768 → (get_or table r 0 ≡ label_of r → ⊥) → labelled table ≡ false
  off r h other = by (labelled table) refl
    where
      by : (t : Bool) → labelled table ≡ t → labelled table ≡ false
      by true q = absurd (other (labelled-at q r h))
      by false q = q

  pub some-off : labelled table ≡ false → (r : ℕ) × (r < 32768) × (get_or table r 0 ≡ label_of r → ⊥)
  unfolding labelled
  some-off e =
      let found = every-fails (keeps_at table) 32768 e in
      (found.0, found.1, (λ same. true≢false (sym (eq-eqb _ _ same) ∙ found.2)))

-- each filled entry is the label of its place
pub filled_at : Labels 32768 all_labels
unfolding all_labels
filled_at r h = tabled-at 32768 r label_of 0 h

pub filled-length : length all_labels ≡ 32768
unfolding all_labels
filled-length = tabled-length 32768 label_of

-- so what fills a table is what its test asks for
pub filled-labelled : labelled all_labels ≡ true
filled-labelled = labelled-where all_labels filled_at
