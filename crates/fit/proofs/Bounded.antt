-- The fit is no NaN and within ±(0.0003·symbol): every step up to its clamp is finite, since the places are multiples of 1/2, so that a sum of
-- squares above 0 is not small.
-- Assumes nothing.
use mathlib.Core.Path.{◌≡◌, ap, subst}
use mathlib.Core.Bool.{Bool, true, false, not, and-eq-true_iff}
use mathlib.Core.List.{List}
use Prim.Native.Nat.{ℕ, ◌^◌, ◌≤◌, ◌<◌}
use native.Mathlib.Omega.{arith}
use native.Mathlib.Nat.{mul-le-mul_right}
use borrow.Author.Tests.{ltb-false, leb-true, not-false}
use lib.Dec.{T, leb, ltb, eqb, lit<, lit≤}
use lib.ListN.{length}
use lib.IntN.{pos}
use lib.Ieee.{Float, fin, binary64, add, sub, mul, div, neg, le, of_int, is_nan, round}
use lib.Ieee.Scale.{finite}
use lib.Ieee.Positive.{positive, between}
use denote.Floats.{passes}
use Rattle.ieee.specs.Whole.{plus_zero, Whole, run}
use Rattle.ieee.specs.Within.{Within, larger}
use Rattle.ieee.specs.Size.{Upto, Least, Grid}
use Rattle.ieee.proofs.Order.{above_zero, positive-num, finite-not-nan, not-nan, le_trans}
use Rattle.ieee.proofs.Values.{of_int-whole}
use Rattle.ieee.proofs.Intervals.{larger-one, larger-above, clamp-in}
use Rattle.ieee.proofs.Rounds.{add-mono, square_above, mul-above, div-above}
use Rattle.ieee.proofs.Sizes.{upto-wider, upto-within, neg-upto, upto-whole, least-whole, least_above, least-pos, within-upto, run-above}
use Rattle.ieee.proofs.Sizes.{add-upto, sub-upto, mul-upto, div-upto, run-upto}
use Rattle.ieee.proofs.Grids.{grid-whole, grid-finer, least-grid, div-grid, sub-grid, mul-grid, run-grid}
use Rattle.util.specs.Choose.{choose}
use Rattle.util.specs.Refusal.{refused, accepted}
use Rattle.util.proofs.Choose.{by-case, past-cause}
use Rattle.frame.specs.Format.{r0, r1, format_of}
use Rattle.util.specs.Every.{every}
use Rattle.blocks.specs.Doubles.{as_f64, fraction, within}
use Rattle.blocks.specs.Blocks.{half, place2_at, timing_at, before, good_at}
use Rattle.blocks.specs.declared.Block.{Block}
use Rattle.util.proofs.Every.{every-at}
use Rattle.fit.specs.Fit.{limit_of, prior_of, shrunk_slope, fit_about, fit_of, good_blocks, fit_blocks, fit_answer}

-- ---- the two modes' constants, by computing
abbrev tiny : Float
tiny = fraction 1 1000000000000000000000000000000

-- what the fit needs of a prior and a limit
record Fitting (prior most : Float) : Type 0 where
  pub upto : Upto 1 0 prior
  pub least : Least 13 prior
  pub above : T (le plus_zero prior)
  pub itself : T (le prior prior)
  pub more : T (le prior (add binary64 prior plus_zero))
  pub ends : T (le (neg most) most)
  pub low : T (le (neg most) plus_zero)
  pub high : T (le plus_zero most)

fitting : (b : Bool) → Fitting (prior_of (choose b r0 r1).symbol) (limit_of (choose b r0 r1).symbol)
unfolding mul of_int round le add neg
fitting true = record {
  upto = record { finite = tt; size = lit≤ tt };
  least = record { finite = tt; size = lit≤ tt };
  above = tt;
  itself = tt;
  more = tt;
  ends = tt;
  low = tt;
  high = tt;
}
fitting false = record {
  upto = record { finite = tt; size = lit≤ tt };
  least = record { finite = tt; size = lit≤ tt };
  above = tt;
  itself = tt;
  more = tt;
  ends = tt;
  low = tt;
  high = tt;
}

record Small : Type 0 where
  pub finite : T (finite tiny)
  pub least : Least 100 tiny
  pub above : T (le plus_zero tiny)
  pub number : T (not (is_nan tiny))

small_one : Small
unfolding round le is_nan
small_one = record { finite = tt; least = record { finite = tt; size = lit≤ tt }; above = tt; number = tt }

record Ones : Type 0 where
  pub finite : T (finite (as_f64 1))
  pub number : T (not (is_nan (as_f64 1)))
  pub above : T (le plus_zero (as_f64 1))
  pub positive : T (positive (as_f64 1))
  pub below : T (le (as_f64 1) (fin false 1 (pos 7)))

one-one : Ones
unfolding of_int is_nan le
one-one = record { finite = tt; number = tt; above = tt; positive = tt; below = tt }

four-facts : T (finite (as_f64 4)) × T (le plus_zero (as_f64 4))
unfolding of_int le
four-facts = (tt, tt)

module _ (prior most : Float) (ok : Fitting prior most) (n : ℕ) (few : 6 ≤ n) (many : n ≤ 64) (p : ℕ → ℕ) (small : (i : ℕ) → i < n → p i ≤ 4096)
    (Y : ℕ → Float) (bounded : (i : ℕ) → i < n → Upto 1 12 (Y i)) where
  abbrev two : Float
  two = as_f64 2

  abbrev one : Float
  one = as_f64 1

  abbrev four : Float
  four = as_f64 4

  abbrev N : Float
  N = of_int binary64 (pos n)

  abbrev X : ℕ → Float
  X i = div binary64 (of_int binary64 (pos (p i))) two

  abbrev xm : Float
  xm = div binary64 (run (add binary64) plus_zero X n) N

  abbrev ym : Float
  ym = div binary64 (run (add binary64) plus_zero Y n) N

  abbrev dx : ℕ → Float
  dx i = sub binary64 (X i) xm

  abbrev dy : ℕ → Float
  dy i = sub binary64 (Y i) ym

  abbrev sxx : Float
  sxx = run (add binary64) plus_zero (λ i. mul binary64 (dx i) (dx i)) n

  abbrev sxy : Float
  sxy = run (add binary64) plus_zero (λ i. mul binary64 (dx i) (dy i)) n

  abbrev s : Float
  s = div binary64 sxy sxx

  two-whole : Whole two (pos 2)
  two-whole = of_int-whole binary64 (pos 2) (lit≤ tt)

  two-upto : Upto 1 1 two
  two-upto = upto-whole 1 1 two-whole (lit≤ tt)

  two-least : Least 0 two
  two-least = least-whole two-whole (lit< tt)

  four-upto : Upto 1 2 four
  four-upto = upto-whole 1 2 (of_int-whole binary64 (pos 4) (lit≤ tt)) (lit≤ tt)

  N-whole : Whole N (pos n)
  N-whole = of_int-whole binary64 (pos n) (omega arith)

  N-upto : Upto 1 6 N
  N-upto = upto-whole 1 6 N-whole (omega arith)

  N-least : Least 0 N
  N-least = least-whole N-whole (omega arith)

  place : (i : ℕ) → i < n → Whole (of_int binary64 (pos (p i))) (pos (p i))
  place i h = of_int-whole binary64 (pos (p i)) (omega (arith, small i h))

  X-upto : (i : ℕ) → i < n → Upto 1 12 (X i)
  X-upto i h = div-upto binary64 (upto-whole 1 12 (place i h) (omega (arith, small i h))) two-least (lit< tt) (lit≤ tt)

  X-grid : (i : ℕ) → i < n → Grid 54 (X i)
  X-grid i h = div-grid binary64 (grid-whole (place i h)) two-upto (least-pos two-least) (lit≤ tt) (X-upto i h).finite

  wide : {k : ℕ} {x : Float} → Upto n k x → Upto 64 k x
  wide {k} u = upto-wider 64 k u (mul-le-mul_right (2 ^ k) many)

  mean : {x : Float} → Upto n 12 x → Upto 1 18 (div binary64 x N)
  mean u = div-upto binary64 (upto-wider 1 18 (wide u) (lit≤ tt)) N-least (lit< tt) (lit≤ tt)

  xm-upto : Upto 1 18 xm
  xm-upto = mean (run-upto binary64 12 X n X-upto (omega arith) (lit≤ tt))

  xm-grid : Grid 113 xm
  xm-grid = div-grid binary64 (run-grid binary64 54 12 X n X-grid X-upto (omega arith) (lit≤ tt) (lit≤ tt)) N-upto (least-pos N-least) (lit≤ tt)
      xm-upto.finite

  off : {x m : Float} → Upto 1 12 x → Upto 1 18 m → Upto 1 19 (sub binary64 x m)
  off u v = upto-wider 1 19 (sub-upto binary64 (upto-wider 1 18 u (lit≤ tt)) v (lit< tt) (lit≤ tt)) (lit≤ tt)

  dx-upto : (i : ℕ) → i < n → Upto 1 19 (dx i)
  dx-upto i h = off (X-upto i h) xm-upto

  dx-grid : (i : ℕ) → i < n → Grid 113 (dx i)
  dx-grid i h = sub-grid binary64 (grid-finer 113 (X-grid i h) (lit≤ tt)) xm-grid (lit≤ tt) (dx-upto i h).finite

  dy-upto : (i : ℕ) → i < n → Upto 1 19 (dy i)
  dy-upto i h = off (bounded i h) (mean (run-upto binary64 12 Y n bounded (omega arith) (lit≤ tt)))

  xx-upto : (i : ℕ) → i < n → Upto 1 38 (mul binary64 (dx i) (dx i))
  xx-upto i h = mul-upto binary64 (dx-upto i h) (dx-upto i h) (lit< tt) (lit≤ tt)

  sxx-upto : Upto n 38 sxx
  sxx-upto = run-upto binary64 38 (λ i. mul binary64 (dx i) (dx i)) n xx-upto (omega arith) (lit≤ tt)

  sxx-grid : Grid 226 sxx
  sxx-grid = run-grid binary64 226 38 (λ i. mul binary64 (dx i) (dx i)) n
      (λ i h. mul-grid binary64 (dx-grid i h) (dx-grid i h) (lit≤ tt) (xx-upto i h).finite) xx-upto (omega arith) (lit≤ tt) (lit≤ tt)

  module _ (some : T (not (le sxx plus_zero))) where
    sxx-positive : T (positive sxx)
    sxx-positive = above_zero sxx sxx-upto.finite some

    sxx-least : Least 226 sxx
    sxx-least = least-grid sxx-grid (positive-num sxx sxx-positive)

    s-upto : Upto 1 270 s
    s-upto = div-upto binary64
        (upto-wider 1 44 (wide
        (run-upto binary64 38 (λ i. mul binary64 (dx i) (dy i)) n (λ i h. mul-upto binary64 (dx-upto i h) (dy-upto i h) (lit< tt) (lit≤ tt))
        (omega arith) (lit≤ tt))) (lit≤ tt)) sxx-least (lit< tt) (lit≤ tt)

    abbrev r : ℕ → Float
    r i = sub binary64 (dy i) (mul binary64 s (dx i))

    r-upto : (i : ℕ) → i < n → Upto 1 290 (r i)
    r-upto i h = upto-wider 1 290
        (sub-upto binary64 (upto-wider 1 289 (dy-upto i h) (lit≤ tt)) (mul-upto binary64 s-upto (dx-upto i h) (lit< tt) (lit≤ tt)) (lit< tt)
        (lit≤ tt)) (lit≤ tt)

    abbrev res : Float
    res = div binary64 (run (add binary64) plus_zero (λ i. mul binary64 (r i) (r i)) n) (larger (sub binary64 N two) one)

    one-least : Least 0 one
    one-least = least-whole (of_int-whole binary64 (pos 1) (lit≤ tt)) (lit< tt)

    n-2 : Upto 1 7 (sub binary64 N two)
    n-2 = upto-wider 1 7 (sub-upto binary64 N-upto (upto-wider 1 6 two-upto (lit≤ tt)) (lit< tt) (lit≤ tt)) (lit≤ tt)

    below-finite : T (finite (larger (sub binary64 N two) one))
    below-finite = larger-one (λ z. T (finite z)) (sub binary64 N two) one n-2.finite one-one.finite

    below-least : Least 0 (larger (sub binary64 N two) one)
    below-least = least_above one-least one-one.above
        (larger-above (sub binary64 N two) one (finite-not-nan (sub binary64 N two) n-2.finite) one-one.number).1 below-finite

    res-upto : Upto 1 586 res
    res-upto = div-upto binary64
        (upto-wider 1 586 (wide
        (run-upto binary64 580 (λ i. mul binary64 (r i) (r i)) n (λ i h. mul-upto binary64 (r-upto i h) (r-upto i h) (lit< tt) (lit≤ tt))
        (omega arith) (lit≤ tt))) (lit≤ tt)) below-least (lit< tt) (lit≤ tt)

    abbrev var : Float
    var = div binary64 (mul binary64 four res) sxx

    var-upto : Upto 1 814 var
    var-upto = div-upto binary64 (upto-wider 1 588 (mul-upto binary64 four-upto res-upto (lit< tt) (lit≤ tt)) (lit≤ tt)) sxx-least (lit< tt) (lit≤ tt)

    rr-upto : (i : ℕ) → i < n → Upto 1 580 (mul binary64 (r i) (r i))
    rr-upto i h = mul-upto binary64 (r-upto i h) (r-upto i h) (lit< tt) (lit≤ tt)

    below-positive : T (positive (larger (sub binary64 N two) one))
    below-positive =
        between one (larger (sub binary64 N two) one) (fin false 1 (pos 7)) one-one.positive tt
        (larger-above (sub binary64 N two) one (finite-not-nan (sub binary64 N two) n-2.finite) one-one.number).1
        (larger-one (λ z. T (le z (fin false 1 (pos 7)))) (sub binary64 N two) one (within-upto n-2).to one-one.below)

    res-above : T (le plus_zero res)
    res-above = div-above binary64 (run (add binary64) plus_zero (λ i. mul binary64 (r i) (r i)) n) (larger (sub binary64 N two) one)
        (run-upto binary64 580 (λ i. mul binary64 (r i) (r i)) n rr-upto (omega arith) (lit≤ tt)).finite below-positive
        (run-above binary64 580 (λ i. mul binary64 (r i) (r i)) n rr-upto (λ i h. square_above binary64 (r i) (r-upto i h).finite) (omega arith)
        (lit≤ tt))

    var-above : T (le plus_zero var)
    var-above = div-above binary64 (mul binary64 four res) sxx (mul-upto binary64 four-upto res-upto (lit< tt) (lit≤ tt)).finite sxx-positive
        (mul-above binary64 four res four-facts.0 res-upto.finite four-facts.1 res-above)

    sum-upto : Upto 2 814 (add binary64 prior var)
    sum-upto = add-upto binary64 (upto-wider 1 814 ok.upto (lit≤ tt)) var-upto (lit< tt) (lit≤ tt)

    sum-least : Least 13 (add binary64 prior var)
    sum-least =
        least_above ok.least ok.above
        (le_trans prior (add binary64 prior plus_zero) (add binary64 prior var) ok.more
        (add-mono binary64 prior prior plus_zero var ok.upto.finite ok.upto.finite tt var-upto.finite ok.itself var-above))
        sum-upto.finite

    abbrev t : Float
    t = div binary64 (mul binary64 s prior) (add binary64 prior var)

    t-upto : Upto 1 283 t
    t-upto = div-upto binary64 (mul-upto binary64 s-upto ok.upto (lit< tt) (lit≤ tt)) sum-least (lit< tt) (lit≤ tt)

    abbrev over : Float
    over = add binary64 (mul binary64 t t) (mul binary64 four var)

    over-upto : Upto 2 816 over
    over-upto = add-upto binary64 (upto-wider 1 816 (mul-upto binary64 t-upto t-upto (lit< tt) (lit≤ tt)) (lit≤ tt))
        (mul-upto binary64 four-upto var-upto (lit< tt) (lit≤ tt)) (lit< tt) (lit≤ tt)

    over-least : Least 100 (larger over tiny)
    over-least =
        least_above small_one.least small_one.above (larger-above over tiny (finite-not-nan over over-upto.finite) small_one.number).1
        (larger-one (λ z. T (finite z)) over tiny over-upto.finite small_one.finite)

    -- the fit before its clamp
    last-upto : Upto 1 949 (div binary64 (mul binary64 (mul binary64 t t) t) (larger over tiny))
    last-upto = div-upto binary64 (mul-upto binary64 (mul-upto binary64 t-upto t-upto (lit< tt) (lit≤ tt)) t-upto (lit< tt) (lit≤ tt)) over-least
        (lit< tt) (lit≤ tt)

-- 0.0 is within the limit, and an accepted timing is bounded
pub zero-within : (mode : ℕ) → Within (neg (limit_of (format_of mode).symbol)) (limit_of (format_of mode).symbol) plus_zero
zero-within mode = let ok = fitting (eqb mode 0) in record { from = ok.low; to = ok.high }

pub timing-upto : (y : Float) → within (as_f64 4096) y ≡ true → Upto 1 12 y
timing-upto y e =
    let u = upto-whole 1 12 (of_int-whole binary64 (pos 4096) (lit≤ tt)) (lit≤ tt) in
    let h = (and-eq-true_iff (le (neg (as_f64 4096)) y) (le y (as_f64 4096))).0 e in
    upto-within (neg-upto u) u (record { from = passes _ h.0; to = passes _ h.1 })

-- the fit of n accepted blocks is no NaN and within the limit
pub fit-within : (mode n : ℕ) (p : ℕ → ℕ) (Y : ℕ → Float) → n ≤ 64 → ((i : ℕ) → i < n → p i ≤ 4096) → ((i : ℕ) → i < n → Upto 1 12 (Y i))
    → Within (neg (limit_of (format_of mode).symbol)) (limit_of (format_of mode).symbol) (fit_of (format_of mode).symbol n (λ i. half (p i)) Y)
unfolding fit_of fit_about shrunk_slope
fit-within mode n p Y many small bounded =
    let symbol = (format_of mode).symbol in
    let most = limit_of symbol in
    let ok = fitting (eqb mode 0) in
    let zero_in = zero-within mode in
    by-case (Within (neg most) most) (ltb n 6) plus_zero _ (λ _. zero_in) (λ e.
    let few = ltb-false n 6 e in
    by-case (Within (neg most) most) (le (sxx (prior_of symbol) most ok n few many p small Y bounded) plus_zero) plus_zero _ (λ _. zero_in) (λ f.
    clamp-in (neg most) most _ ok.ends (finite-not-nan _ (last-upto (prior_of symbol) most ok n few many p small Y bounded (passes _ (ap not f))).finite)))

-- so the entry's answer is
pub fit-bounded : (mode : ℕ) (bs : List Block) (d : Float) → fit_answer mode bs ≡ accepted d
    → Within (neg (limit_of (format_of mode).symbol)) (limit_of (format_of mode).symbol) d × T (not (is_nan d))
fit-bounded mode bs d e =
    let n = length bs in
    let fitted = fit_blocks (format_of mode).symbol n bs in
    let one = past-cause (ltb 1 mode) 1 (choose (not (good_blocks n bs)) (refused 10) (accepted fitted)) d e in
    let ten = past-cause (not (good_blocks n bs)) 10 (accepted fitted) d one.1 in
    let all = (and-eq-true_iff (leb n 64) (every n (good_at bs))).0 (not-false (good_blocks n bs) ten.0) in
    let same : fitted ≡ d = cc ten.1 in
    let w = subst (Within (neg (limit_of (format_of mode).symbol)) (limit_of (format_of mode).symbol)) same
    (fit-within mode n (place2_at bs) (timing_at bs) (leb-true n 64 all.0) (λ i h. leb-true _ _ (ranged bs n all.1 i h).0)
    (λ i h. timing-upto (timing_at bs i) (ranged bs n all.1 i h).1)) in
    (w, (not-nan d _ w.to).0)
  where
    ranged : (bs : List Block) (n : ℕ) → every n (good_at bs) ≡ true → (i : ℕ) → i < n → (leb (place2_at bs i) 4096 ≡ true)
        × (within (as_f64 4096) (timing_at bs i) ≡ true)
    ranged bs n h i l =
        (and-eq-true_iff (leb (place2_at bs i) 4096) (within (as_f64 4096) (timing_at bs i))).0
        ((and-eq-true_iff (leb (before (place2_at bs) i) (place2_at bs i)) _).0 (every-at (good_at bs) n i l h)).1
