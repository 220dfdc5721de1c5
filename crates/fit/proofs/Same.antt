-- The fit sees its first n blocks only, so the fit over what is gathered is the fit over the blocks. Assumes nothing.
use Prim.Native.Nat.{ℕ, ◌≤◌, ◌<◌}
use mathlib.Core.Bool.{Bool, true, false, ◌&&◌}
use mathlib.Core.List.{List}
use mathlib.Core.Path.{◌≡◌, refl, sym, ap, ◌∙◌, subst}
use borrow.Author.Tests.{leb-true}
use lib.Dec.{leb, ltb}
use lib.Ieee.{Float, binary64, add, le}
use lib.ListN.{length, get_or, take}
use lib.Seq.{length-take-le, get_or-take}
use Rattle.ieee.specs.Whole.{plus_zero}
use Rattle.ieee.proofs.Folds.{run-same}
use Rattle.util.specs.Choose.{choose}
use Rattle.util.specs.Refusal.{outcome}
use Rattle.frame.specs.Format.{format_of}
use Rattle.util.specs.Every.{every}
use Rattle.blocks.specs.Doubles.{◌⊖◌, ◌⊗◌, ◌⊘◌, as_f64}
use Rattle.blocks.specs.Blocks.{nowhere, half, place2_at, timing_at, good_at}
use Rattle.blocks.specs.Inside.{origin, places_in, timings_in, Gathers}
use Rattle.blocks.specs.declared.Block.{Block}
use Rattle.blocks.specs.declared.Point.{Point}
use Rattle.blocks.specs.declared.Gathered.{Gathered}
use Rattle.fit.specs.Fit.{sum_of, products_of, squares_of, shrunk_slope, fit_about, fit_of, fit_blocks, fit_causes, fit_answer}

module _ (symbol n : ℕ) (x x' y y' : ℕ → Float) (ex : (i : ℕ) → i < n → x i ≡ x' i) (ey : (i : ℕ) → i < n → y i ≡ y' i) where
  xx : (a : Float) → products_of n x a x a ≡ products_of n x' a x' a
  xx a = run-same (add binary64) plus_zero _ _ n (λ k h. λ i. (ex k h i ⊖ a) ⊗ (ex k h i ⊖ a))

  xy : (a b : Float) → products_of n x a y b ≡ products_of n x' a y' b
  xy a b = run-same (add binary64) plus_zero _ _ n (λ k h. λ i. (ex k h i ⊖ a) ⊗ (ey k h i ⊖ b))

  left : (a b s : Float) → squares_of n x a y b s ≡ squares_of n x' a y' b s
  left a b s = run-same (add binary64) plus_zero _ _ n (λ k h. λ i. ((ey k h i ⊖ b) ⊖ s ⊗ (ex k h i ⊖ a)) ⊗ ((ey k h i ⊖ b) ⊖ s ⊗ (ex k h i ⊖ a)))

  about : (a b : Float) → fit_about symbol n x a y b ≡ fit_about symbol n x' a y' b
  unfolding fit_about
  about a b = λ i. choose (le (xx a i) plus_zero) plus_zero (shrunk_slope symbol n (xx a i) (xy a b i ⊘ xx a i) (left a b (xy a b i ⊘ xx a i) i))

  pub fit_same : fit_of symbol n x y ≡ fit_of symbol n x' y'
  unfolding fit_of
  fit_same =
      (λ i. choose (ltb n 6) plus_zero
      (fit_about symbol n x (run-same (add binary64) plus_zero x x' n ex i ⊘ as_f64 n) y (run-same (add binary64) plus_zero y y' n ey i ⊘ as_f64 n)))
      ∙ ap (λ (z : Float). choose (ltb n 6) plus_zero z) (about (sum_of x' n ⊘ as_f64 n) (sum_of y' n ⊘ as_f64 n))

-- ---- lists of blocks that agree so far
pub blocks-same : (symbol n : ℕ) (bs bs' : List Block) → ((i : ℕ) → i < n → get_or bs i nowhere ≡ get_or bs' i nowhere)
    → fit_blocks symbol n bs ≡ fit_blocks symbol n bs'
blocks-same symbol n bs bs' e = fit_same symbol n _ _ _ _ (λ i h. ap (λ (b : Block). half b.place2) (e i h)) (λ i h. ap (λ (b : Block). b.timing) (e i h))

-- ---- the public entry by what is gathered
pub fit-agrees : (mode : ℕ) (bs : List Block) (k : ℕ) (g : Gathered) → (length bs ≤ 64 → k ≡ length bs) → Gathers bs k g
    → outcome (fit_causes mode (leb (length bs) 64 && g.good))
    (fit_of (format_of mode).symbol (length bs) (places_in g.points) (timings_in g.points)) ≡ fit_answer mode bs
fit-agrees mode bs k g all so = by (leb (length bs) 64) refl
  where
    n : ℕ
    n = length bs

    fitted : Float
    fitted = fit_of (format_of mode).symbol n (places_in g.points) (timings_in g.points)

    by : (t : Bool) → leb n 64 ≡ t → outcome (fit_causes mode (leb n 64 && g.good)) fitted ≡ fit_answer mode bs
    by true p =
        let whole-list : Gathers bs n g = subst (λ (m : ℕ). Gathers bs m g) (all (leb-true n 64 p)) so in
        λ i. outcome (fit_causes mode (leb n 64 && whole-list.good i))
        (fit_same (format_of mode).symbol n _ (λ j. half (place2_at bs j)) _ (timing_at bs)
        (λ j h. ap (λ (q : Point). q.place) (whole-list.points j h)) (λ j h. ap (λ (q : Point). q.timing) (whole-list.points j h)) i)
    by false p =
        ap (λ (t : Bool). outcome (fit_causes mode (t && g.good)) fitted) p
        ∙ sym (ap (λ (t : Bool). outcome (fit_causes mode (t && every n (good_at bs))) (fit_blocks (format_of mode).symbol n bs)) p)

-- the fit of the first n of a list of points
pub of_first : (symbol n : ℕ) (ps : List Point) → n ≤ length ps
    → fit_of symbol (length (take n ps)) (places_in (take n ps)) (timings_in (take n ps)) ≡ fit_of symbol n (places_in ps) (timings_in ps)
of_first symbol n ps h =
    ap (λ (m : ℕ). fit_of symbol m (places_in (take n ps)) (timings_in (take n ps))) (length-take-le n ps h)
    ∙ fit_same symbol n _ _ _ _ (λ i l. ap (λ (q : Point). q.place) (get_or-take n ps i origin l))
    (λ i l. ap (λ (q : Point). q.timing) (get_or-take n ps i origin l))
