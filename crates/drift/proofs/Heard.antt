-- How large the two sums grow: by one bounded term a symbol, and tden is never negative and never -0.0. And a pushed block's timing is within
-- ±4,096: a mean of small shifts and a held misalignment.
-- Assumes nothing.
use Prim.Native.Nat.{ℕ, zero, suc, ◌+◌, ◌-◌, ◌*◌, ◌^◌, ◌≤◌, ◌<◌}
use mathlib.Core.Bool.{Bool, true, false, not, ◌&&◌, and-eq-true_iff}
use mathlib.Core.List.{List}
use mathlib.Core.Path.{◌≡◌}
use native.Mathlib.Nat.{mul-le-mul_right, le_trans}
use native.Mathlib.Omega.{arith}
use lib.Dec.{T, eqb, lit<, lit≤}
use lib.IntN.{ℤ, pos, nat_abs, ◌+ℤ◌}
use lib.ListN.{get_or}
use lib.Ieee.{Float, fin, binary64, of_int, neg, lt, le, add, div, round, is_nan, fits}
use lib.Ieee.Bits.{is_true}
use lib.Ieee.Fits.{sub-fits}
use denote.Floats.{passes}
use Rattle.ieee.specs.Whole.{plus_zero, is_zero, run}
use Rattle.ieee.specs.Within.{larger, ok_div, ok_add}
use Rattle.ieee.specs.Size.{Upto, Score}
use Rattle.ieee.proofs.Integers.{abs-add}
use Rattle.ieee.proofs.Order.{le_refl, lt→not-le, above_zero, not-nan, finite-not-nan}
use Rattle.ieee.proofs.Rounds.{add-above, div_mono}
use Rattle.ieee.proofs.Intervals.{larger-one, larger-above, clamp-in, div-in, add-in, point, widen}
use Rattle.ieee.proofs.Sizes.{upto_zero, upto-wider, upto-within, within-upto, upto-whole, add-upto, sub-upto, mul-upto}
use Rattle.ieee.proofs.Values.{of_int-whole}
use Rattle.ieee.proofs.Zeros.{score-add, score-wider, score-zero}
use Rattle.util.specs.Choose.{choose}
use Rattle.frame.specs.Format.{r0, r1, format_of}
use Rattle.blocks.specs.Doubles.{◌⊕◌, ◌⊖◌, ◌⊗◌, ◌⊘◌, as_f64, fraction, within}
use Rattle.tracker.specs.Rule.{block_length, energy, in_range, sums_kept}
use Rattle.call.specs.Call.{num_after, den_after, mean_shift, mis_of}
use Rattle.tracker.specs.declared.Sample.{Sample}
use Rattle.tracker.specs.declared.Sample.TheVariants.{Heard, Missed}
use Rattle.tracker.specs.declared.Tracker.{Tracker}
use Rattle.tracker.proofs.Signs.{within_both}
use Rattle.tracker.proofs.Further.{length-few}

-- an energy in range
energy-upto : (x : Float) → energy x ≡ true → Upto 1 30 x
energy-upto x e =
    let h = (and-eq-true_iff (le plus_zero x) (le x (as_f64 1000000000))).0 e in
    upto-within (upto-wider 1 30 (upto_zero {k = 0}) (lit≤ tt)) (upto-whole 1 30 (of_int-whole binary64 (pos 1000000000) (lit≤ tt)) (lit≤ tt))
    (record { from = passes _ h.0; to = passes _ h.1 })

half-upto : Upto 1 0 (fraction 1 2)
unfolding round
half-upto = record { finite = tt; size = lit≤ tt }

zero-facts : T (fits binary64 plus_zero) × T (le plus_zero plus_zero) × T (not (is_nan plus_zero))
unfolding fits le is_nan
zero-facts = (tt, tt, tt)

-- the sums after at most w symbols of a block
pub record Sums (w : ℕ) (x y : Float) : Type 0 where
  pub num : Upto w 31 x
  pub den : Score binary64 w 32 y
  pub above : T (le plus_zero y)

pub sums_none : Sums 0 plus_zero plus_zero
sums_none = record { num = upto_zero; den = score-zero binary64; above = zero-facts.1 }

pub sums_same : {v w : ℕ} {num den : Float} → v ≤ w → Sums v num den → Sums w num den
sums_same {v} {w} h s =
    record {
      num = upto-wider w 31 s.num (mul-le-mul_right (2 ^ 31) h);
      den = score-wider binary64 w 32 s.den (mul-le-mul_right (2 ^ 32) h);
      above = s.above;
    }

module _ (w : ℕ) (few : w < 64) (t : Tracker) (sums : Sums w t.tnum t.tden) where
  pub sums-more : (s : Sample) → in_range s ≡ true → Sums (w + 1) (num_after t s) (den_after t s)
  sums-more (Heard early late noise) e =
      let one = (and-eq-true_iff (energy early) _).0 e in
      let two = (and-eq-true_iff (energy late) (energy noise)).0 one.1 in
      let ue = energy-upto early one.0 in
      let ul = energy-upto late two.0 in
      let un = energy-upto noise two.1 in
      let diff : Upto 1 31 (late ⊖ early) = upto-wider 1 31 (sub-upto binary64 ul ue (lit< tt) (lit≤ tt)) (lit≤ tt) in
      let mean : Upto 2 30 (fraction 1 2 ⊗ (late ⊕ early)) = mul-upto binary64 half-upto (add-upto binary64 ul ue (lit< tt) (lit≤ tt)) (lit< tt) (lit≤ tt) in
      let v = fraction 1 2 ⊗ (late ⊕ early) ⊖ noise in
      let uv : Upto 1 32 v = upto-wider 1 32 (sub-upto binary64 mean un (lit< tt) (lit≤ tt)) (lit≤ tt) in
      let more : Upto 1 32 (larger v plus_zero) = larger-one (Upto 1 32) v plus_zero uv (upto-wider 1 32 (upto_zero {k = 0}) (lit≤ tt)) in
      record {
        num = add-upto binary64 sums.num diff (omega arith) (lit≤ tt);
        den = score-add binary64 sums.den
            (larger-one (λ z. T (fits binary64 z)) v plus_zero (sub-fits binary64 (fraction 1 2 ⊗ (late ⊕ early)) noise) zero-facts.0) more
            (omega arith) (omega arith) (lit≤ tt);
        above = add-above binary64 t.tden (larger v plus_zero) sums.den.upto.finite more.finite sums.above
            (larger-above v plus_zero (finite-not-nan v uv.finite) zero-facts.2).1;
      }
  sums-more Missed e = sums_same (omega arith) sums

-- ---- the rule's clause on the sums
abbrev tera : Float
tera = as_f64 1000000000000

tera-ends : T (le (neg tera) (fin true 1 (pos 38)) && le (fin false 1 (pos 38)) tera)
unfolding of_int neg le
tera-ends = tt

inside-tera : {x : Float} → Upto 1 38 x → within tera x ≡ true
inside-tera {x} u = within_both (widen (neg tera) tera (within-upto u) tera-ends)

pub sums-kept : (w : ℕ) → w ≤ 64 → (t : Tracker) → Sums w t.tnum t.tden → sums_kept t ≡ true
sums-kept w h t s =
    let u = inside-tera (upto-wider 1 38 (upto-wider 64 31 s.num (mul-le-mul_right (2 ^ 31) h)) (lit≤ tt)) in
    let v = inside-tera (upto-wider 1 38 (upto-wider 64 32 s.den.upto (mul-le-mul_right (2 ^ 32) h)) (lit≤ tt)) in
    λ i. u i && (v i && (is_true (le plus_zero t.tden) s.above i && is_true (not (is_zero true t.tden)) s.den.plain i))

-- ---- a pushed block's timing
total_size : (z : ℕ → ℤ) (b n : ℕ) → ((j : ℕ) → j < n → nat_abs (z j) ≤ b) → nat_abs (run ◌+ℤ◌ (pos 0) z n) ≤ b * n
unfolding run
total_size z b zero h = omega arith
total_size z b (suc n) h = omega (arith, abs-add (run ◌+ℤ◌ (pos 0) z n) (z n), total_size z b n (λ j l. h j (omega arith)), h n (omega arith))

abbrev low-mean : Float
low-mean = fin true 1 (pos 11)

abbrev high-mean : Float
high-mean = fin false 1 (pos 11)

record Ends (n g : ℕ) : Type 0 where
  pub itself : T (le (as_f64 n) (as_f64 n))
  pub mean : T (ok_div binary64 (fin true 1 (pos (choose (eqb n 32) 16 17))) (fin false 1 (pos (choose (eqb n 32) 16 17))) (as_f64 n)
      (as_f64 n) low-mean high-mean)
  pub gate : Upto 1 6 (as_f64 g ⊘ as_f64 4)
  pub total : n * 2048 ≤ 1 * 2 ^ choose (eqb n 32) 16 17

ends : (b : Bool) → Ends (choose b 32 64) ((choose b r0 r1).symbol - 16)
unfolding le of_int div
ends true = record { itself = tt; mean = tt; gate = record { finite = tt; size = lit≤ tt }; total = lit≤ tt }
ends false = record { itself = tt; mean = tt; gate = record { finite = tt; size = lit≤ tt }; total = lit≤ tt }

held-ends : T (le (neg (as_f64 32)) (as_f64 32)) × T (ok_add binary64 low-mean high-mean (neg (as_f64 32)) (as_f64 32) (neg (as_f64 4096)) (as_f64 4096))
unfolding le neg of_int add
held-ends = (tt, tt)

pub timing-within : (mode : ℕ) (stored : List ℤ) (first w : ℕ) (num den : Float) → w ≤ 64 → Sums w num den → lt plus_zero den ≡ true
    → ((j : ℕ) → j < block_length mode → nat_abs (get_or stored (first + j) (pos 0)) ≤ 2048)
    → within (as_f64 4096) (mean_shift mode stored first ⊕ mis_of mode num den) ≡ true
timing-within mode stored first w num den few s heard small =
    let e = ends (eqb mode 0) in
    let n = block_length mode in
    let size = total_size (λ j. get_or stored (first + j) (pos 0)) 2048 n small in
    let total = run ◌+ℤ◌ (pos 0) (λ j. get_or stored (first + j) (pos 0)) n in
    let sum-in = within-upto
    (upto-whole 1 (choose (eqb n 32) 16 17) (of_int-whole binary64 total (omega (arith, size, length-few mode)))
    (le_trans size (omega (arith, e.total)))) in
    let mean-in = div-in binary64 low-mean high-mean sum-in (point (as_f64 n) e.itself) e.mean in
    let top : Upto 1 43 (as_f64 ((format_of mode).symbol - 16) ⊘ as_f64 4 ⊗ num) = mul-upto binary64 e.gate
    (upto-wider 1 37 (upto-wider 64 31 s.num (mul-le-mul_right (2 ^ 31) few)) (lit≤ tt)) (lit< tt) (lit≤ tt) in
    let q = as_f64 ((format_of mode).symbol - 16) ⊘ as_f64 4 ⊗ num ⊘ den in
    let den-above = above_zero den s.den.upto.finite (lt→not-le plus_zero den (passes _ heard)) in
    let x = as_f64 ((format_of mode).symbol - 16) ⊘ as_f64 4 ⊗ num in
    let number = (not-nan q q (div_mono binary64 x x den top.finite top.finite den-above (le_refl x (finite-not-nan x top.finite)))).0 in
    let mis-in = clamp-in (neg (as_f64 32)) (as_f64 32) q held-ends.0 number in
    within_both (add-in binary64 (neg (as_f64 4096)) (as_f64 4096) mean-in mis-in held-ends.1)
