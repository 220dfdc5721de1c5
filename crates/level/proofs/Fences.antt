-- What a value that was tried fences off: where it lies too low, no value that is not above it has the rank, and where it lies too high none
-- that is not below it. So of a row few need be tried. Assumes nothing.
use Prim.Native.Nat.{ℕ, ◌+◌, ◌≤◌, ◌<◌}
use mathlib.Core.Bool.{Bool, true, false, not, ◌&&◌, ◌||◌, and-false, true≢false}
use mathlib.Core.List.{List}
use mathlib.Core.Option.{Option}
use mathlib.Core.Path.{◌≡◌, refl, sym, ap, subst, ◌∙◌}
use native.Mathlib.Omega.{arith}
use borrow.Author.Tests.{lt-leb, le-ltb}
use lib.Dec.{T, eqb, leb, ltb}
use lib.ListN.{get_or}
use lib.Ieee.{Float, nan, inf, fin, lt, le}
use Rattle.ieee.proofs.Order.{le_trans, lt-le}
use Rattle.level.specs.Rank.{passes, count_of, ranks}
use Rattle.level.specs.Inside.{held_at, Fenced, Side}
use Rattle.level.specs.declared.Lies.{Lies}
use Rattle.level.specs.declared.Lies.TheVariants.{There, Low, High}
use Rattle.level.proofs.Counting.{count-mono, ranks-holds}
use Rattle.level.proofs.Turns.{held-is, held-not}

-- ---- by the two counts
module _ (held : ℕ → Option Float) (n k : ℕ) (x : Float) where
  too-high : k < count_of (λ y. lt y x) held n → ranks held n k x ≡ false
  unfolding ranks
  too-high h = ap (λ (t : Bool). t && ltb k (count_of (λ y. le y x) held n)) (lt-leb _ k h)

  too-low : count_of (λ y. le y x) held n ≤ k → ranks held n k x ≡ false
  unfolding ranks
  too-low h = ap (λ (t : Bool). leb (count_of (λ y. lt y x) held n) k && t) (le-ltb k _ h) ∙ and-false (leb (count_of (λ y. lt y x) held n) k)

module _ (held : ℕ → Option Float) (n k : ℕ) (x y : Float) where
  under : count_of (λ z. le z x) held n ≤ k → le y x ≡ true → ranks held n k y ≡ false
  under h e =
      too-low held n k y (omega (arith, count-mono (λ z. le z y) (λ z. le z x) held n (λ z t. le_trans z y x t (subst T (sym e) tt))))

  over : k < count_of (λ z. lt z x) held n → le x y ≡ true → ranks held n k y ≡ false
  over h e =
      too-high held n k y (omega (arith, count-mono (λ z. lt z x) (λ z. lt z y) held n (λ z t. lt-le z x y t (subst T (sym e) tt))))

-- ---- nothing compares with a NaN
not-under : (x : Float) → le x nan ≡ false
unfolding le
not-under nan = refl
not-under (inf s) = refl
not-under (fin s m e) = refl

not-over : (x : Float) → le nan x ≡ false
unfolding le
not-over x = refl

pub no-fence : (held : ℕ → Option Float) (n k : ℕ) → Fenced held n k nan nan
no-fence held n k =
    record { under = λ x e. absurd (true≢false (sym e ∙ not-under x)); over = λ x e. absurd (true≢false (sym e ∙ not-over x)) }

-- ---- what is told of bin b
module _ (marks : List ℕ) (values : List Float) (base n k b : ℕ) where
  abbrev held : ℕ → Option Float
  held = held_at marks values base

  abbrev x : Float
  x = get_or values (base + b) nan

  -- its mark is another, or it lies where no value has the rank
  pub fenced : (low high : Float) → Fenced held n k low high → (not (eqb (get_or marks (base + b) 0) 1) || (le x low || le high x)) ≡ true
      → Side marks values base n k b Lies.Fenced
  fenced low high f e = record {
    here = λ z. cc;
    not-here = λ z. by (eqb (get_or marks (base + b) 0) 1) (le x low) (le high x) refl refl refl e;
    low = λ z. cc;
    high = λ z. cc;
  }
    where
      by : (m l h : Bool) → eqb (get_or marks (base + b) 0) 1 ≡ m → le x low ≡ l → le high x ≡ h → (not m || (l || h)) ≡ true
          → passes (ranks held n k) (held b) ≡ false
      by false l h p q r t = held-not (ranks held n k) marks values base b p
      by true true h p q r t = held-is (ranks held n k) marks values base b p ∙ f.under x q
      by true false true p q r t = held-is (ranks held n k) marks values base b p ∙ f.over x r
      by true false false p q r t = absurd (true≢false (sym t))

  module _ (there : eqb (get_or marks (base + b) 0) 1 ≡ true) where
    pub lies-high : k < count_of (λ y. lt y x) held n → Side marks values base n k b High
    lies-high h = record {
      here = λ z. cc;
      not-here = λ z. held-is (ranks held n k) marks values base b there ∙ too-high held n k x h;
      low = λ z. cc;
      high = λ z y e. over held n k x y h e;
    }

    pub lies-low : count_of (λ y. le y x) held n ≤ k → Side marks values base n k b Low
    lies-low h = record {
      here = λ z. cc;
      not-here = λ z. held-is (ranks held n k) marks values base b there ∙ too-low held n k x h;
      low = λ z y e. under held n k x y h e;
      high = λ z. cc;
    }

    pub lies-there : count_of (λ y. lt y x) held n ≤ k → k < count_of (λ y. le y x) held n → Side marks values base n k b There
    lies-there h l = record {
      here = λ z. held-is (ranks held n k) marks values base b there ∙ ranks-holds held n k x h l;
      not-here = λ z. absurd (z refl);
      low = λ z. cc;
      high = λ z. cc;
    }

-- where it is not fenced off it is there
pub unfenced : (marks : List ℕ) (at : ℕ) (x low high : Float) → (not (eqb (get_or marks at 0) 1) || (le x low || le high x)) ≡ false → eqb (get_or marks at 0) 1 ≡ true
unfenced marks at x low high = by (eqb (get_or marks at 0) 1)
  where
    by : (m : Bool) → (not m || (le x low || le high x)) ≡ false → m ≡ true
    by true e = refl
    by false e = absurd (true≢false e)

-- ---- the fences with what is told of one bin more
module _ (marks : List ℕ) (values : List Float) (base n k b : ℕ) (r : Lies) (low high : Float) (side : Side marks values base n k b r)
    (f : Fenced (held_at marks values base) n k low high) where
  pub fence-low : r ≡ Low → Fenced (held_at marks values base) n k (get_or values (base + b) nan) high
  fence-low e = record { under = side.low e; over = f.over }

  pub fence-high : r ≡ High → Fenced (held_at marks values base) n k low (get_or values (base + b) nan)
  fence-high e = record { under = f.under; over = side.high e }
