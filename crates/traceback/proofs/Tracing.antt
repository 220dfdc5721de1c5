-- The traceback, step by step: what is left to trace, below the word so far, makes up the whole. Assumes nothing.
use Prim.Native.Nat.{ℕ, suc, ◌+◌, ◌*◌, ◌/◌, ◌%◌, ◌^◌}
use mathlib.Core.Bool.{Bool}
use mathlib.Core.Path.{◌≡◌, refl, sym, subst, ◌∙◌}
use native.Mathlib.Nat.{pow-suc}
use native.Mathlib.Omega.{arith}
use Rattle.trellis.specs.Search.{came_by, trace_start, trace_word}

pub record Tracing (N : ℕ) (d : ℕ → ℕ → Bool) (steps end word s j : ℕ) : Type 0 where
  pub words : word * 2 ^ j + trace_word N d j s ≡ trace_word N d steps end
  pub starts : trace_start N d j s ≡ trace_start N d steps end

pub tracing-start : (N : ℕ) (d : ℕ → ℕ → Bool) (steps end : ℕ) → Tracing N d steps end 0 end steps
tracing-start N d steps end = record { words = omega arith; starts = refl }

pub tracing-done : {N : ℕ} {d : ℕ → ℕ → Bool} {steps end word s j : ℕ} → Tracing N d steps end word s j → j ≡ 0
    → (word ≡ trace_word N d steps end) × (s ≡ trace_start N d steps end)
unfolding trace_word trace_start
tracing-done {N} {d} {steps} {end} {word} {s} {j} h e =
    let g : Tracing N d steps end word s 0 = subst (λ (i : ℕ). Tracing N d steps end word s i) e h in
    (omega (arith, g.words), g.starts)

pub tracing-more : {N : ℕ} {d : ℕ → ℕ → Bool} {steps end word s j : ℕ} (i : ℕ) (t : Bool) → suc i ≡ j → d i s ≡ t → Tracing N d steps end word s j
    → Tracing N d steps end (word * 2 + s % 2) (came_by N t s / 2) i
unfolding trace_word trace_start
tracing-more {N} {d} {steps} {end} {word} {s} i t e q h =
    let g : Tracing N d steps end word s (suc i) = subst (λ (k : ℕ). Tracing N d steps end word s k) (sym e) h in
    subst (λ (b : Bool). Tracing N d steps end (word * 2 + s % 2) (came_by N b s / 2) i) q
    (record { words = shift (trace_word N d i (came_by N (d i s) s / 2)) ∙ g.words; starts = g.starts })
  where
    shift : (rest : ℕ) → (word * 2 + s % 2) * 2 ^ i + rest ≡ word * 2 ^ suc i + (s % 2 * 2 ^ i + rest)
    shift rest = rw (pow-suc 2 i) (omega arith)
