-- The erasure rule in whole numbers is the Rust's `blanked_frac` above 0.5: of every layout, window and count to 255 windows, and so of
-- each symbol of every accepted burst. f32 holds both numbers of the quotient, and symbol's `Erasure` closes it. Assumes nothing.
use Prim.Native.Nat.{ℕ, ◌+◌, ◌*◌, ◌≤◌, ◌<◌}
use mathlib.Core.Bool.{Bool, true, false, ◌||◌, true≢false}
use mathlib.Core.List.{List, [], ◌∷◌}
use mathlib.Core.Logic.{⊎_elim}
use mathlib.Core.Path.{◌≡◌, refl, sym, ap, ◌∙◌}
use native.Mathlib.Nat.{mul-le-mul_right}
use native.Mathlib.Omega.{arith}
use borrow.Author.Rules.{rules}
use borrow.Author.Tests.{eqb-true, ltb-false}
use lib.Dec.{eqb}
use lib.ListN.{length, get_or, get_or-eq_default}
use Rattle.util.specs.Choose.{choose}
use Rattle.util.specs.Refusal.{accepted}
use Rattle.util.proofs.Fill.{below_or_not}
use Rattle.util.proofs.Some.{none_of}
use Rattle.frame.specs.Format.{r0, r1, format_of, layout_named, listed}
use Rattle.frame.proofs.Named.{layout-most}
use Rattle.symbol.specs.Symbol.{erased_of, mostly_blanked}
use Rattle.symbol.proofs.Erasure.{erased-is}
use Rattle.soft.specs.Entry.{Asked, count_out, soft_answer}
use Rattle.soft.proofs.Answer.{accepted-all}

-- every window of a list is one to 224
abbrev Short : List ℕ → Type 0
Short [] = Unit
Short (w ∷ ws) = ((0 < w) × (w ≤ 224)) × Short ws

listed-short : (w : ℕ) (ws : List ℕ) → Short ws → listed w ws ≡ true → (0 < w) × (w ≤ 224)
listed-short w [] all e = absurd (true≢false (sym e))
listed-short w (v ∷ vs) all e = by (eqb w v) refl (listed-short w vs all.1)
  where
    by : (t : Bool) → eqb w v ≡ t → (listed w vs ≡ true → (0 < w) × (w ≤ 224)) → (0 < w) × (w ≤ 224)
    by true p rest = let same : w ≡ v = eqb-true w v p in (omega (arith, all.0.0), omega (arith, all.0.1))
    by false p rest = rest (sym (ap (λ (t : Bool). t || listed w vs) p) ∙ e)

window-short : (mode w : ℕ) → listed w (format_of mode).windows ≡ true → (0 < w) × (w ≤ 224)
window-short mode w e = by (eqb mode 0) e
  where
    by : (t : Bool) → listed w (choose t r0 r1).windows ≡ true → (0 < w) × (w ≤ 224)
    by true q = listed-short w r0.windows (search rules) q
    by false q = listed-short w r1.windows (search rules) q

-- one law for all layouts, windows and counts
pub rule-is-quotient : (mode k window count : ℕ) → layout_named k ≡ true → listed window (format_of mode).windows ≡ true → count ≤ 255 * window
    → erased_of k window count ≡ mostly_blanked k window count
rule-is-quotient mode k window count known own few =
    let short = window-short mode window own in
    let narrow : 6 * k + 1 ≤ 49 = omega (arith, layout-most k known) in
    erased-is k window count (omega (arith, short.1, few)) short.0 (omega (arith, short.1, mul-le-mul_right window narrow))

module _ (a : Asked) (ok : soft_answer a ≡ accepted tt) (i : ℕ) where
  -- past the end there is no count
  count_small : get_or a.counts i 0 ≤ 255 * a.window
  unfolding count_out
  count_small =
      ⊎_elim (λ l. ltb-false _ _ (none_of (count_out a.window) a.counts 0 (accepted-all a ok).counts i l))
      (λ l. let none : get_or a.counts i 0 ≡ 0 = get_or-eq_default a.counts 0 l in omega arith)
      (below_or_not i (length a.counts))

  pub erased-is-blanked : erased_of a.layout a.window (get_or a.counts i 0) ≡ mostly_blanked a.layout a.window (get_or a.counts i 0)
  erased-is-blanked =
      let all = accepted-all a ok in
      rule-is-quotient a.mode a.layout a.window (get_or a.counts i 0) all.layout all.window count_small
