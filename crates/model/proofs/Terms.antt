-- A metric's five terms lie in the symbol's rows; their sum, of terms that are values of f32 and bounded, is bounded,
-- finite and never -0.0. Assumes nothing.
use Prim.Native.Nat.{ℕ, ◌+◌, ◌*◌, ◌-◌, ◌≤◌, ◌<◌}
use mathlib.Core.Path.{◌≡◌}
use native.Mathlib.Omega.{arith}
use lib.Dec.{T, lit<}
use lib.Ieee.{Float, binary32, add, fits}
use Rattle.ieee.specs.Whole.{plus_zero, run}
use Rattle.ieee.specs.Size.{Upto, Score}
use Rattle.ieee.proofs.Zeros.{score-run}
use Rattle.frame.specs.Air.{bin_of, place_of}
use Rattle.frame.proofs.Air.{bin-below, place-within}
use Rattle.model.specs.Metric.{term_at, metric_of}

-- e+j-2 lies in 0..51, for any bin count to 48
pub place-in-row : (bins h v j : ℕ) → 0 < bins → bins ≤ 48 → j < 5 → place_of (bin_of bins h v) + j - 2 < 52
place-in-row bins h v j pos most l = place-within (bin_of bins h v) j (omega (arith, bin-below bins h v pos)) l

-- so the term read is one of the symbol's 260
pub term-in-symbol : (symbol row place : ℕ) → row < 5 → place < 52 → term_at symbol row place < 260 * symbol + 260
term-in-symbol symbol row place r p = omega arith

-- the symbol's terms within ±2^k (2^20 covers 1,000,000): a metric is finite, within 5 times that, and never -0.0
pub metric-score : (k n : ℕ) (terms : ℕ → Float) (symbol e : ℕ) → ((i : ℕ) → i < n → T (fits binary32 (terms i)) × Upto 1 k (terms i)) → k + 24 ≤ 127
    → 260 * symbol + 260 ≤ n → 2 ≤ e → e ≤ 49 → Score binary32 5 k (metric_of (add binary32) plus_zero terms symbol e)
unfolding metric_of
metric-score k n terms symbol e w h room low high =
    score-run binary32 k (λ j. terms (term_at symbol j (e + j - 2))) 5
    (λ j l. let inside : term_at symbol j (e + j - 2) < n = omega arith in w (term_at symbol j (e + j - 2)) inside) (lit< tt) h

-- the five terms, one by one, from the place of the first
pub five-terms : {A : Type 0} (op : A → A → A) (nil : A) (t : ℕ → A) (symbol e at : ℕ) → 2 ≤ e → at ≡ 260 * symbol + (e - 2)
    → metric_of op nil t symbol e ≡ op (op (op (op (op nil (t at)) (t (at + 53))) (t (at + 106))) (t (at + 159))) (t (at + 212))
unfolding metric_of run
five-terms op nil t symbol e at low is =
    let a : term_at symbol 0 (e + 0 - 2) ≡ at = omega arith in
    let b : term_at symbol 1 (e + 1 - 2) ≡ at + 53 = omega arith in
    let c : term_at symbol 2 (e + 2 - 2) ≡ at + 106 = omega arith in
    let d : term_at symbol 3 (e + 3 - 2) ≡ at + 159 = omega arith in
    let f : term_at symbol 4 (e + 4 - 2) ≡ at + 212 = omega arith in
    cc
