-- A pass that copied a step's scores back would leave two areas alike, and its promise (`Turned`) does not allow that. Assumes nothing.
use Prim.Native.Nat.{ℕ, ◌*◌, ◌+◌, ◌/◌, ◌<◌}
use mathlib.Core.Bool.{true, false, true≢false}
use mathlib.Core.List.{List}
use mathlib.Core.Path.{◌≡◌, refl, sym, ap, ap₂, ◌∙◌}
use native.Mathlib.Omega.{arith}
use lib.Dec.{lit≤}
use lib.Ieee.{Float, fin, nan, lt, add, binary32}
use lib.IntN.{pos}
use lib.ListN.{replicate, get_or-replicate}
use Rattle.util.proofs.Choose.{by-case}
use Rattle.conv.specs.Label.{label_of}
use Rattle.conv.proofs.Linear.{label-lt}
use Rattle.trellis.specs.Search.{brings, upper, step, scores}
use Rattle.pass.specs.Areas.{over, steps_in, Turned}

abbrev zero-score : ℕ → Float
zero-score _ = fin false 0 (pos 0)

abbrev one : Float
one = fin false 1 (pos 0)

-- two steps in which every register earns 1.0
abbrev level : List Float
level = replicate 64 one

-- from scores that are all x each of them makes x + 1.0 of all
step-level : (f : ℕ → Float) (x : Float) (j s : ℕ) → j < 2 → ((s : ℕ) → f s ≡ x) → step (over level) f j s ≡ add binary32 x one
step-level f x j s h all = by-case (λ (y : Float). y ≡ add binary32 x one) (upper (over level) f j s) _ _ (λ _. brought (s + 16384)) (λ _. brought s)
  where
    brought : (r : ℕ) → brings (over level) f j r ≡ add binary32 x one
    brought r = ap₂ (add binary32) (all (r / 2)) (get_or-replicate 64 (j * 32 + label_of r) one nan (omega (arith, label-lt r)))

after_one : (s : ℕ) → scores (over level) zero-score 1 s ≡ add binary32 (zero-score 0) one
unfolding scores
after_one s = step-level zero-score (zero-score 0) 0 s (lit≤ tt) (λ _. refl)

after_two : (s : ℕ) → scores (over level) zero-score 2 s ≡ add binary32 (add binary32 (zero-score 0) one) one
unfolding scores
after_two s = step-level (scores (over level) zero-score 1) _ 1 s (lit≤ tt) after_one

-- 0.0 + 1.0 is less than 0.0 + 1.0 + 1.0
less : lt (add binary32 (zero-score 0) one) (add binary32 (add binary32 (zero-score 0) one) one) ≡ true
unfolding lt add
less = refl

not-less : lt (add binary32 (zero-score 0) one) (add binary32 (zero-score 0) one) ≡ false
unfolding lt add
not-less = refl

pub not_alike : (area : List Float) (d : List ℕ) → Turned level zero-score (steps_in level) area area d → ⊥
not_alike area d t =
    let both = sym (after_two 0) ∙ sym (t.ran.held.at 0 (lit≤ tt)) ∙ t.source.at 0 (lit≤ tt) ∙ after_one 0 in
    true≢false (sym less ∙ ap (lt (add binary32 (zero-score 0) one)) both ∙ not-less)
