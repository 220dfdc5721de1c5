-- One step, state by state, and one pass, step by step: what the areas hold is what the definitions say. Assumes nothing.
use Prim.Native.Nat.{ℕ, ◌+◌, ◌*◌, ◌-◌, ◌/◌, ◌%◌, ◌<◌}
use mathlib.Core.List.{List}
use mathlib.Core.Path.{◌≡◌, refl, sym, ap, ap₂, subst, ◌∙◌}
use native.Mathlib.Nat.{not-suc-le-zero}
use native.Mathlib.Numerals.{add-one}
use native.Mathlib.Omega.{arith}
use borrow.Author.Count.{below_more}
use lib.Ieee.{Float, lt, add, binary32}
use lib.ListN.{length}
use Rattle.util.specs.Choose.{choose}
use Rattle.trellis.specs.Search.{brings, upper, step, scores, decision}
use Rattle.pass.specs.Areas.{table, steps_in, over, flag, packed, Holds, Stepped, Ran, Turned}

-- what is stored for state s, from what its two registers bring
module _ (metrics : List Float) (f : ℕ → Float) (j s : ℕ) {a b : Float}
    (ea : a ≡ brings (over metrics) f j s) (eb : b ≡ brings (over metrics) f j (s + 16384)) where
  pub score-is : {r : Float} → r ≡ choose (lt a b) b a → r ≡ step (over metrics) f j s
  score-is e = cc

  pub decision-is : {r : ℕ} → r ≡ choose (lt a b) 1 0 → r ≡ choose (upper (over metrics) f j s) 1 0
  decision-is e = cc

-- ---- a table in place of another that agrees with it at the states

-- ---- a pass, step by step

module _ (metrics : List Float) (j : ℕ) {f g : ℕ → Float} (agree : (s : ℕ) → s < 16384 → f s ≡ g s) where
  brings-same : (r : ℕ) → r < 32768 → brings (over metrics) f j r ≡ brings (over metrics) g j r
  brings-same r h = ap (λ (x : Float). add binary32 x ((over metrics).earn j r)) (agree (r / 2) (omega arith))

  upper-same : (s : ℕ) → s < 16384 → upper (over metrics) f j s ≡ upper (over metrics) g j s
  upper-same s h = ap₂ (λ (x y : Float). lt y x) (brings-same (s + 16384) (omega arith)) (brings-same s (omega arith))

  step_same : (s : ℕ) → s < 16384 → step (over metrics) f j s ≡ step (over metrics) g j s
  step_same s h = ap₂ (λ (x y : Float). choose (lt y x) x y) (brings-same (s + 16384) (omega arith)) (brings-same s (omega arith))

pub ran-none : (metrics : List Float) (area : List Float) (d : List ℕ) → length area ≡ 16384 → Ran metrics (table area) 0 area d
unfolding scores
ran-none metrics area d e =
    record { held = record { size = e; at = λ s h. refl }; decided = record { at = λ i h. absurd (not-suc-le-zero h) } }

pub ran-more : (metrics : List Float) (f : ℕ → Float) (j : ℕ) {area after : List Float} {d new : List ℕ}
    → Ran metrics f j area d → Stepped metrics area j after d new → Ran metrics f (j + 1) after new
unfolding scores decision
ran-more metrics f j {area} {after} {d} {new} ran st =
    record {
      held = record {
        size = st.size;
        at = λ s h. st.done s h ∙ step_same metrics j ran.held.at s h ∙ ap (λ (k : ℕ). scores (over metrics) f k s) (sym (add-one j));
      };
      decided = record {
        at = below_more (λ (i : ℕ). (s : ℕ) → s < 16384 → packed new i s ≡ decision (over metrics) f i s) j
            (λ i h s l. ap (λ (x : ℕ). flag x (s % 64)) (st.earlier (i * 256 + s / 64) (omega arith)) ∙ ran.decided.at i h s l)
            (λ s l. st.flags s l ∙ upper-same metrics j ran.held.at s l);
      };
    }

-- two steps, the second from what the first made
pub turned : (metrics : List Float) (f : ℕ → Float) (j : ℕ) {area between after : List Float} {d mid new : List ℕ} → length d ≡ steps_in metrics * 256
    → Ran metrics f j area d → Stepped metrics area j between d mid → Stepped metrics between (j + 1) after mid new → Turned metrics f (j + 2) after between new
turned metrics f j {between = between} size ran one two =
    let half = ran-more metrics f j ran one in
    let here : j + 2 - 1 ≡ j + 1 = omega arith in
    let next : j + 2 ≡ j + 1 + 1 = omega arith in
    record {
      ran = rw next (ran-more metrics f (j + 1) half two);
      source = subst (λ (k : ℕ). Holds between (scores (over metrics) f k)) (sym here) half.held;
      room = two.room ∙ one.room ∙ size;
    }

-- the first two
pub opened : {metrics start between after : List Float} {d mid new : List ℕ} → length start ≡ 16384 → length d ≡ steps_in metrics * 256
    → Stepped metrics start 0 between d mid → Stepped metrics between 1 after mid new → Turned metrics (table start) 2 after between new
opened {metrics} {start} {d = d} e size one two = turned metrics (table start) 0 size (ran-none metrics start d e) one two
