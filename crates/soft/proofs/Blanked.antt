-- An erased symbol's terms reach no answer but refusal 6: two bursts that are both accepted and differ only in such terms have
-- the same values, so the same answer and the same lists. Assumes nothing.
use Prim.Native.Nat.{ℕ, ◌+◌, ◌*◌, ◌-◌, ◌≤◌, ◌<◌}
use mathlib.Core.Bool.{Bool, true, false}
use mathlib.Core.List.{List}
use mathlib.Core.Logic.{⊎_elim}
use mathlib.Core.Path.{◌≡◌, refl, sym, ap, ap₂, fun_ext, ◌∙◌}
use native.Mathlib.Omega.{arith}
use lib.ListN.{length, get_or, replicate, get_or-eq_default}
use lib.Ieee.{Float, nan, binary32, add}
use Rattle.util.specs.Refusal.{Outcome, accepted, afterwards}
use Rattle.util.proofs.Fill.{below_or_not}
use Rattle.frame.specs.Format.{format_of, header_bits}
use Rattle.frame.specs.Air.{hop_of, bin_of, place_of}
use Rattle.frame.proofs.Air.{bins-some, bins-most}
use Rattle.ieee.specs.Whole.{plus_zero}
use Rattle.ieee.proofs.Folds.{run-same}
use Rattle.model.specs.Metric.{metric_of}
use Rattle.model.proofs.Terms.{place-in-row}
use Rattle.symbol.specs.Symbol.{erased_of}
use Rattle.interleave.specs.Interleave.{symbols_of}
use Rattle.forms.specs.Burst.{received, metrics_out, soft_out}
use Rattle.soft.specs.Entry.{Asked, asked, soft_answer, values_of, metrics_after, soft_after, work_after}
use Rattle.forms.proofs.Ways.{value-erased, value-kept}
use Rattle.soft.proofs.Answer.{accepted-all, lengths-are}

-- the same burst with other terms
abbrev pub with_terms : Asked → List Float → Asked
with_terms a terms = asked a.mode a.kind a.layout a.symbols a.window a.bits terms a.counts a.work a.metrics a.soft

module _ (a : Asked) (terms : List Float) (one : soft_answer a ≡ accepted tt) (two : soft_answer (with_terms a terms) ≡ accepted tt)
    (same : (i : ℕ) → i < symbols_of a.bits → erased_of a.layout a.window (get_or a.counts i 0) ≡ false → (j : ℕ) → j < 260
    → get_or a.terms (260 * i + j) nan ≡ get_or terms (260 * i + j) nan) where
  -- past the end both have no term
  term-same : (i : ℕ) → erased_of a.layout a.window (get_or a.counts i 0) ≡ false → (j : ℕ) → j < 260
      → get_or a.terms (260 * i + j) nan ≡ get_or terms (260 * i + j) nan
  term-same i kept j h =
      let p : length a.terms ≡ 260 * symbols_of a.bits = (lengths-are a.bits _ _ _ _ _ (accepted-all a one).lengths).0 in
      let q : length terms ≡ 260 * symbols_of a.bits = (lengths-are a.bits _ _ _ _ _ (accepted-all (with_terms a terms) two).lengths).0 in
      ⊎_elim
      (λ l. same i l kept j h)
      (λ l.
      let u : length a.terms ≤ 260 * i + j = omega arith in
      let v : length terms ≤ 260 * i + j = omega arith in
      get_or-eq_default a.terms nan u ∙ sym (get_or-eq_default terms nan v))
      (below_or_not i (symbols_of a.bits))

  metric-kept : (i e : ℕ) → erased_of a.layout a.window (get_or a.counts i 0) ≡ false → ((j : ℕ) → j < 5 → e + j - 2 < 52)
      → metric_of (add binary32) plus_zero (λ k. get_or a.terms k nan) i e ≡ metric_of (add binary32) plus_zero (λ k. get_or terms k nan) i e
  unfolding metric_of
  metric-kept i e kept row =
      run-same (add binary32) plus_zero _ _ 5
      (λ j l. let inside : 52 * j + (e + j - 2) < 260 = omega (arith, row j l) in term-same i kept (52 * j + (e + j - 2)) inside)

  value_same : (i v : ℕ) → values_of a i v ≡ values_of (with_terms a terms) i v
  value_same i v = by (erased_of a.layout a.window (get_or a.counts i 0)) refl
    where
      bins : ℕ
      bins = (format_of a.mode).bins

      hop : ℕ
      hop = hop_of bins (header_bits a.kind + i)

      by : (t : Bool) → erased_of a.layout a.window (get_or a.counts i 0) ≡ t → values_of a i v ≡ values_of (with_terms a terms) i v
      by true q = value-erased (received a.mode a.kind a.layout a.window a.terms a.counts) i v q
          ∙ sym (value-erased (received a.mode a.kind a.layout a.window terms a.counts) i v q)
      by false q =
          sym (value-kept (received a.mode a.kind a.layout a.window a.terms a.counts) i v bins hop (header_bits a.kind) q refl refl refl)
          ∙ metric-kept i (place_of (bin_of bins hop v)) q (λ j l. place-in-row bins hop v j (bins-some a.mode) (bins-most a.mode) l)
          ∙ value-kept (received a.mode a.kind a.layout a.window terms a.counts) i v bins hop (header_bits a.kind) q refl refl refl

  values_same : values_of a ≡ values_of (with_terms a terms)
  values_same = fun_ext (λ i. fun_ext (λ v. value_same i v))

  pub answer-same : soft_answer a ≡ soft_answer (with_terms a terms)
  answer-same = one ∙ sym two

  pub metrics-same : metrics_after a ≡ metrics_after (with_terms a terms)
  metrics-same =
      ap₂ (λ (o : Outcome Unit) (x : ℕ → ℕ → Float). afterwards o a.metrics (metrics_out a.symbols (symbols_of a.bits) x)) answer-same values_same

  pub softs-same : soft_after a ≡ soft_after (with_terms a terms)
  softs-same =
      ap₂ (λ (o : Outcome Unit) (x : ℕ → ℕ → Float). afterwards o a.soft (soft_out a.symbols (symbols_of a.bits) a.bits x)) answer-same values_same

  pub work-same : work_after a ≡ work_after (with_terms a terms)
  work-same = ap (λ (o : Outcome Unit). afterwards o a.work (replicate (length a.work) plus_zero)) answer-same
