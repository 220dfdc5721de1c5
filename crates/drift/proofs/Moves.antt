-- How far a shift moves: by 1 at a time, and only towards drift·c, which is within 137.7 samples in R0 and 69.7 in R1. So it stays within 137 and 69.
-- Assumes nothing.
use Prim.Native.Nat.{ℕ, zero, suc, ◌≤◌}
use mathlib.Core.Bool.{Bool, true, false}
use mathlib.Core.Logic.{⊎_elim}
use mathlib.Core.Path.{◌≡◌, refl, sym, ap, ◌∙◌, subst}
use native.Mathlib.Nat.{eq-or-lt_of_le}
use native.Mathlib.Omega.{arith}
use borrow.Author.Tests.{le-leb}
use lib.Dec.{T, T_not, eqb, lit≤}
use lib.IntN.{ℤ, pos, negsuc, neg_ℤ, nat_abs, ◌+ℤ◌, ◌-ℤ◌, +ℤ_one, -ℤ_one}
use lib.Ieee.{Float, binary64, of_int, neg, lt, le, add, sub, mul, round}
use denote.Floats.{passes}
use Rattle.ieee.specs.Within.{Within, ok_mul}
use Rattle.ieee.proofs.Integers.{abs-add, abs-sub}
use Rattle.ieee.proofs.Order.{le→not-lt}
use Rattle.ieee.proofs.Intervals.{mul_in}
use Rattle.ieee.proofs.Values.{of_int-le}
use Rattle.util.specs.Choose.{choose}
use Rattle.frame.specs.Format.{r0, r1, format_of}
use Rattle.blocks.specs.Doubles.{◌⊕◌, ◌⊖◌, ◌⊗◌, as_f64, fraction}
use Rattle.fit.specs.Fit.{limit_of}
use Rattle.call.specs.Call.{shift_after}
use Rattle.drift.specs.Series.{farthest}

-- one up and one down from the far ends
abbrev above : ℕ → Float
above b = as_f64 b ⊕ fraction 7 10

abbrev beneath : ℕ → Float
beneath b = of_int binary64 (neg_ℤ (pos b)) ⊖ fraction 7 10

-- drift·c, by the corners of its range
corners : (b : Bool)
    → T (ok_mul binary64 (neg (limit_of (choose b r0 r1).symbol)) (limit_of (choose b r0 r1).symbol) (as_f64 0) (as_f64 2048)
    (beneath (choose b (farthest 0) (farthest 1))) (above (choose b (farthest 0) (farthest 1))))
unfolding mul add sub neg le of_int round
corners true = tt
corners false = tt

-- a count to 2,048 as an f64
counted : (c : ℕ) → c ≤ 2048 → Within (as_f64 0) (as_f64 2048) (as_f64 c)
counted c h =
    record {
      from = passes _ (of_int-le binary64 (pos 0) (pos c) (lit≤ tt) (omega arith) ∙ le-leb 0 c (omega arith));
      to = passes _ (of_int-le binary64 (pos c) (pos 2048) (omega arith) (lit≤ tt) ∙ le-leb c 2048 h);
    }

target-in : (mode : ℕ) (d : Float) (c : ℕ) → Within (neg (limit_of (format_of mode).symbol)) (limit_of (format_of mode).symbol) d → c ≤ 2048
    → Within (beneath (farthest mode)) (above (farthest mode)) (d ⊗ as_f64 c)
target-in mode d c w h = mul_in binary64 (beneath (farthest mode)) (above (farthest mode)) w (counted c h) (corners (eqb mode 0))

-- up: not from the far end
up-size : (z : ℤ) (b : ℕ) → 1 ≤ b → nat_abs z ≤ b → (z ≡ pos b → ⊥) → nat_abs (z +ℤ pos 1) ≤ b
up-size (pos m) b one h far = ⊎_elim (λ e. absurd (far (ap pos e))) (λ l. omega (arith, abs-add (pos m) (pos 1))) (eq-or-lt_of_le {n = m} {m = b} h)
up-size (negsuc zero) b one h far = subst (λ (y : ℤ). nat_abs y ≤ b) (sym (+ℤ_one (negsuc zero))) (omega arith)
up-size (negsuc (suc m)) b one h far = subst (λ (y : ℤ). nat_abs y ≤ b) (sym (+ℤ_one (negsuc (suc m)))) (omega arith)

down-size : (z : ℤ) (b : ℕ) → 1 ≤ b → nat_abs z ≤ b → (z ≡ neg_ℤ (pos b) → ⊥) → nat_abs (z -ℤ pos 1) ≤ b
down-size (pos zero) b one h far = subst (λ (y : ℤ). nat_abs y ≤ b) (sym (-ℤ_one (pos zero))) one
down-size (pos (suc m)) b one h far = subst (λ (y : ℤ). nat_abs y ≤ b) (sym (-ℤ_one (pos (suc m)))) (omega arith)
down-size (negsuc m) b one h far = ⊎_elim (λ e. absurd (far (ap (λ (k : ℕ). neg_ℤ (pos k)) e))) (λ l. omega (arith, abs-sub (negsuc m) (pos 1)))
    (eq-or-lt_of_le {n = suc m} {m = b} h)

pub shift-held : (mode : ℕ) (z : ℤ) (d : Float) (c : ℕ) → nat_abs z ≤ farthest mode
    → Within (neg (limit_of (format_of mode).symbol)) (limit_of (format_of mode).symbol) d → c ≤ 2048
    → nat_abs (shift_after z (d ⊗ as_f64 c)) ≤ farthest mode
shift-held mode z d c h w l = by (lt (of_int binary64 z ⊕ fraction 7 10) t) (lt t (of_int binary64 z ⊖ fraction 7 10)) refl refl
  where
    t : Float
    t = d ⊗ as_f64 c

    b : ℕ
    b = farthest mode

    inside : Within (beneath b) (above b) t
    inside = target-in mode d c w l

    one : 1 ≤ b
    one = by_mode (eqb mode 0)
      where
        by_mode : (m : Bool) → 1 ≤ choose m (farthest 0) (farthest 1)
        by_mode true = omega arith
        by_mode false = omega arith

    by : (p q : Bool) → lt (of_int binary64 z ⊕ fraction 7 10) t ≡ p → lt t (of_int binary64 z ⊖ fraction 7 10) ≡ q
        → nat_abs (choose p (z +ℤ pos 1) (choose q (z -ℤ pos 1) z)) ≤ b
    by true q e f = up-size z b one h
        (λ far. T_not (lt (above b) t) (le→not-lt t (above b) inside.to)
        (passes (lt (above b) t) (ap (λ (y : ℤ). lt (of_int binary64 y ⊕ fraction 7 10) t) (sym far) ∙ e)))
    by false true e f = down-size z b one h
        (λ far. T_not (lt t (beneath b)) (le→not-lt (beneath b) t inside.from)
        (passes (lt t (beneath b)) (ap (λ (y : ℤ). lt t (of_int binary64 y ⊖ fraction 7 10)) (sym far) ∙ f)))
    by false false e f = h

pub farthest-small : (mode : ℕ) → farthest mode ≤ 2048
farthest-small mode = by (eqb mode 0)
  where
    by : (b : Bool) → choose b (farthest 0) (farthest 1) ≤ 2048
    by true = omega arith
    by false = omega arith
