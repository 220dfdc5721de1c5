-- The rows of a burst by number, as the 25 places hold them; and what a row's level is, five of its bins being missing. Assumes nothing.
use Prim.Native.Nat.{ℕ, ◌+◌, ◌-◌, ◌*◌, ◌/◌, ◌%◌, ◌≤◌, ◌<◌}
use mathlib.Core.Bool.{Bool, ◌&&◌, and-false}
use mathlib.Core.List.{List}
use mathlib.Core.Logic.{◌⊎◌, inl, inr, ⊎_elim}
use mathlib.Core.Option.{Option, none}
use mathlib.Core.Path.{◌≡◌, refl, sym, ap, ap₂, subst, ◌∙◌}
use native.Mathlib.Omega.{arith}
use borrow.Author.Tests.{le-leb, lt-leb, lt-ltb, le-ltb}
use lib.Dec.{leb, ltb}
use lib.ListN.{replicate, get_or-replicate}
use lib.Ieee.{Float, binary32, div}
use Rattle.ieee.specs.Whole.{plus_zero}
use Rattle.nearby.specs.Inside.{Nearby}
use Rattle.nearby.proofs.Rows.{held-missing}
use Rattle.util.proofs.Choose.{chosen, not_chosen}
use Rattle.util.proofs.Fill.{below_or_not}
use Rattle.frame.specs.Format.{header_bits}
use Rattle.frame.specs.Air.{hop_of}
use Rattle.frame.proofs.Air.{some-bins}
use Rattle.root.specs.Root.{root_of}
use Rattle.level.specs.Row.{ratio_of, strongest_of, held_of}
use Rattle.level.specs.Rank.{there_of, of_rank}
use Rattle.level.specs.Level.{three, level_from, level_of}
use Rattle.noise.specs.Local.{Burst, bins_of, read_of, ratios, held, around}
use Rattle.noise.specs.Inside.{numbered}
use Rattle.noise.proofs.Least.{all-but-five}

-- ---- a row by its number
module _ (a : Burst) (b : ℕ) where
  pub numbered-in : (n : ℕ) → 25 ≤ n → n < a.rows + 25 → numbered a n b ≡ held a (n - 25) b
  unfolding numbered
  numbered-in n l h = chosen _ none (ap₂ ◌&&◌ (le-leb 25 n l) (lt-ltb n (a.rows + 25) h))

  pub numbered-out : (n : ℕ) → (n < 25) ⊎ (a.rows + 25 ≤ n) → numbered a n b ≡ none
  unfolding numbered
  numbered-out n (inl h) = not_chosen (held a (n - 25) b) none (ap (λ (t : Bool). t && ltb n (a.rows + 25)) (lt-leb 25 n h))
  numbered-out n (inr h) =
      not_chosen (held a (n - 25) b) none (ap (λ (t : Bool). leb 25 n && t) (le-ltb n (a.rows + 25) h) ∙ and-false (leb 25 n))

  around-in : (i k : ℕ) → 12 ≤ i + k → i + k < a.rows + 12 → around a i b k ≡ held a (i + k - 12) b
  unfolding around
  around-in i k l h = chosen _ none (ap₂ ◌&&◌ (le-leb 12 (i + k) l) (lt-ltb (i + k) (a.rows + 12) h))

  around-out : (i k : ℕ) → (i + k < 12) ⊎ (a.rows + 12 ≤ i + k) → around a i b k ≡ none
  unfolding around
  around-out i k (inl h) = not_chosen (held a (i + k - 12) b) none (ap (λ (t : Bool). t && ltb (i + k) (a.rows + 12)) (lt-leb 12 (i + k) h))
  around-out i k (inr h) =
      not_chosen (held a (i + k - 12) b) none (ap (λ (t : Bool). leb 12 (i + k) && t) (le-ltb (i + k) (a.rows + 12) h) ∙ and-false (leb 12 (i + k)))

  -- the k-th of the 25 rows around row i
  pub around-is : (i k : ℕ) → numbered a (i + 13 + k) b ≡ around a i b k
  around-is i k =
      ⊎_elim
      (λ low. numbered-out (i + 13 + k) (inl (omega arith)) ∙ sym (around-out i k (inl low)))
      (λ from. ⊎_elim
      (λ below.
      let row : i + 13 + k - 25 ≡ i + k - 12 = omega arith in
      numbered-in (i + 13 + k) (omega arith) (omega arith) ∙ ap (λ (n : ℕ). held a n b) row ∙ sym (around-in i k from below))
      (λ past. numbered-out (i + 13 + k) (inr (omega arith)) ∙ sym (around-out i k (inr past)))
      (below_or_not (i + k) (a.rows + 12)))
      (below_or_not (i + k) 12)

-- the same number by another sum
pub numbered-as : {row : ℕ → ℕ → Option Float} {n m : ℕ} {marks : List ℕ} {values : List Float} → n ≡ m → Nearby row n marks values → Nearby row m marks values
numbered-as {row} {n} {m} {marks} {values} e near = subst (λ (k : ℕ). Nearby row k marks values) e near

-- nothing is heard yet: all marks are 0
pub begun : (a : Burst) → Nearby (numbered a) 0 (replicate 1300 0) (replicate 1300 plus_zero)
begun a =
    record {
      marks-long = refl;
      values-long = refl;
      rows = λ k b h j.
          held-missing (replicate 1300 0) (replicate 1300 plus_zero) (52 * ((0 + k) % 25)) b (get_or-replicate 1300 (52 * ((0 + k) % 25) + b) 0 0 (omega arith))
          ∙ sym (numbered-out a b (0 + k) (inl (omega arith)));
    }

-- ---- a row heard, by the code's bins and hop
pub held-is : (a : Burst) (t b bins h : ℕ) → bins ≡ bins_of a → h ≡ hop_of (bins_of a) (header_bits a.kind + t)
    → held a t b ≡ held_of (ratio_of a.energies a.noise t) (strongest_of bins h (ratio_of a.energies a.noise t)) b
unfolding held
held-is a t b bins h e f = sym (ap₂ (λ (m g : ℕ). held_of (ratios a t) (strongest_of m g (ratios a t)) b) e f)

-- ---- a row's level: all but five of the bins that are read are there
pub level-is : (a : Burst) (i read : ℕ) → read ≡ read_of a
    → level_of (held a i) (read_of a) ≡ level_from (of_rank (held a i) read ((read - 5) / 2)) (div binary32 three (root_of (read - 5)))
unfolding level_of
level-is a i read e =
    let m = there_of (held a i) (read_of a) in
    let same : m ≡ read - 5 = omega (arith, all-but-five a i) in
    not_chosen _ _ (le-ltb m 8 (omega (arith, all-but-five a i, (some-bins a.mode).0)))
    ∙ ap₂ (λ (n k : ℕ). level_from (of_rank (held a i) n (k / 2)) (div binary32 three (root_of k))) (sym e) same
