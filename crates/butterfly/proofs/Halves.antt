-- Two stores a turn, upwards; and two blocks, which are a word. Assumes nothing.
use Prim.Native.Nat.{ℕ, ◌+◌, ◌*◌, ◌≤◌, ◌<◌}
use mathlib.Core.List.{List}
use mathlib.Core.Logic.{⊎_elim}
use mathlib.Core.Path.{◌≡◌, sym, ap, subst, ◌∙◌}
use native.Mathlib.Nat.{eq-or-lt_of_le, ne_of_lt}
use native.Mathlib.Omega.{arith}
use lib.Ieee.{Float, nan}
use lib.ListN.{length, get_or, set, length-set}
use lib.Seq.{get_or-set_same, get_or-set_other}
use Rattle.util.proofs.Fill.{below_or_not}
use Rattle.trellis.specs.Search.{upper}
use Rattle.pass.specs.Areas.{table, over, Word}
use Rattle.butterfly.specs.Blocks.{word, Block}
use Rattle.butterfly.proofs.Bits.{halves}

module _ (l : List Float) (i : ℕ) (v w : Float) where
  pub two-length : length (set (set l i v) (i + 1) w) ≡ length l
  two-length = length-set (set l i v) (i + 1) w ∙ length-set l i v

  -- what holds from lo up to i, and of the two stored, holds up to i + 2
  pub two-done : (g : ℕ → Float) (lo : ℕ) → i + 1 < length l → v ≡ g i → w ≡ g (i + 1) → ((s : ℕ) → lo ≤ s → s < i → get_or l s nan ≡ g s)
      → (s : ℕ) → lo ≤ s → s < i + 2 → get_or (set (set l i v) (i + 1) w) s nan ≡ g s
  two-done g lo inside ev ew rest s h below =
      let inside' : i + 1 < length (set l i v) = omega (arith, length-set l i v) in
      let upto : s ≤ i + 1 = omega arith in
      ⊎_elim
      (λ q. subst (λ (j : ℕ). get_or (set (set l i v) (i + 1) w) j nan ≡ g j) (sym q) (get_or-set_same (set l i v) (i + 1) w nan inside' ∙ ew))
      (λ q. get_or-set_other (set l i v) (i + 1) s w nan (ne_of_lt q)
      ∙ ⊎_elim
      (λ q'. subst (λ (j : ℕ). get_or (set l i v) j nan ≡ g j) (sym q') (get_or-set_same l i v nan (omega arith) ∙ ev))
      (λ q'. get_or-set_other l i s v nan (ne_of_lt q') ∙ rest s h q')
      (eq-or-lt_of_le {n = s} {m = i} (omega arith)))
      (eq-or-lt_of_le upto)

  -- and what stands below lo is as it was
  pub two-kept : (old : List Float) (lo : ℕ) → lo ≤ i → ((s : ℕ) → s < lo → get_or l s nan ≡ get_or old s nan)
      → (s : ℕ) → s < lo → get_or (set (set l i v) (i + 1) w) s nan ≡ get_or old s nan
  two-kept old lo le rest s h =
      get_or-set_other (set l i v) (i + 1) s w nan (ne_of_lt (omega arith)) ∙ get_or-set_other l i s v nan (ne_of_lt (omega arith)) ∙ rest s h

module _ {metrics from : List Float} {j : ℕ} (w : ℕ) {old mid new : List Float} {a b : ℕ} where
  pub word_of : length new ≡ 16384 → Block metrics from j (2 * w) old mid a → Block metrics from j (2 * w + 1) mid new b
      → Word metrics from j w old new (a + b * 4294967296)
  word_of size first second =
      let d = upper (over metrics) (table from) j in
      let start : 2 * w * 32 ≡ w * 64 = omega arith in
      let middle : (2 * w + 1) * 32 ≡ w * 64 + 32 = omega arith in
      let low : a ≡ word d (w * 64) 32 = first.packed ∙ ap (λ (i : ℕ). word d i 32) start in
      let high : b ≡ word d (w * 64 + 32) 32 = second.packed ∙ ap (λ (i : ℕ). word d i 32) middle in
      record {
        size = size;
        done = λ s h below.
            ⊎_elim
            (λ q. second.below s q ∙ first.done s (omega arith) (omega arith))
            (λ q. second.done s q (omega arith))
            (below_or_not s ((2 * w + 1) * 32));
        below = λ s h. second.below s (omega arith) ∙ first.below s (omega arith);
        flags = halves d (w * 64) a b low high;
      }
