-- Score and ceiling of every answer that is not refused are finite f32, and so is every score and every gain of the passes. It is the simulation of the
-- search by itself, with the score's size counted in units of 2 ^ 20, of which a term is at most one; the terms themselves need not be f32
-- values, since every sum is rounded to one. (Where they are, no score is -0.0 either: Finite.) Assumes nothing.
use Prim.Native.Nat.{ℕ, ◌*◌, ◌^◌, ◌≤◌, ◌<◌}
use mathlib.Core.Path.{◌≡◌, refl, ap₂}
use mathlib.Core.Bool.{false}
use mathlib.Core.List.{List}
use native.Mathlib.Nat.{mul-le-mul_right}
use native.Mathlib.Omega.{arith}
use lib.Dec.{T, lit≤}
use lib.ListN.{length}
use lib.Ieee as Ieee
use lib.Ieee.{Float, binary32, fits}
use lib.Ieee.Scale.{finite}
use lib.Ieee.Fits.{add-fits, sub-fits}
use Rattle.ieee.specs.Size.{Upto}
use Rattle.ieee.proofs.Sizes.{upto_zero, upto-wider, add-upto, sub-upto}
use Rattle.frame.specs.Format.{header_bits}
use Rattle.model.specs.Range.{some_out}
use Rattle.trellis.specs.Trellis.{Trellis}
use Rattle.trellis.specs.Search.{search, ceiling}
use Rattle.trellis.specs.Numbers.{single}
use Rattle.trellis.specs.Terms.{header, lent}
use Rattle.trellis.proofs.Alike.{Follows, SamePass}
use Rattle.trellis.proofs.AnyTerms.{term-upto}
use Rattle.trellis.proofs.Metric.{header-pass, header-alike, header-ceiling}

-- a score, and a term, stand for themselves
pub record Held (q : ℕ) (x y : Float) : Type 0 where
  pub same : x ≡ y
  pub fits : T (fits binary32 x)
  pub upto : Upto q 20 x

record Term (q : ℕ) (x y : Float) : Type 0 where
  pub same : x ≡ y
  pub upto : Upto q 20 x

follows-self : Follows single single Held Term 4480
unfolding fits
follows-self =
    record {
      nil = record { same = refl; fits = tt; upto = upto_zero };
      wider = λ {a} {b} l h. record { same = h.same; fits = h.fits; upto = upto-wider b 20 h.upto (mul-le-mul_right (2 ^ 20) l) };
      term = λ h. record { same = h.same; upto = h.upto };
      add =
          λ h k room. record {
            same = ap₂ (Ieee.add binary32) h.same k.same;
            fits = add-fits binary32 _ _;
            upto = add-upto binary32 h.upto k.upto (omega arith) (lit≤ tt);
          };
      sub =
          λ h k room. record {
            same = ap₂ (Ieee.sub binary32) h.same k.same;
            fits = sub-fits binary32 _ _;
            upto = sub-upto binary32 h.upto k.upto (omega arith) (lit≤ tt);
          };
      gt = λ h k. ap₂ (λ (a b : Float). Ieee.lt b a) h.same k.same;
    }

module _ (mode kind : ℕ) (terms : List Float) (all : length terms ≡ 260 * header_bits kind) (in-range : some_out terms ≡ false) where
  abbrev X : Trellis Float
  X = header single mode kind (lent terms)

  term : (i : ℕ) → i < 260 * header_bits kind → Term 1 (lent terms i) (lent terms i)
  term i l = record { same = refl; upto = term-upto mode kind terms all in-range i l }

  -- of pass k: each state's score after any step and its gain, none above 4,480 · 2^20
  pub pass-held : (k : ℕ) → k ≤ 2 → SamePass (Held 4480) X X k
  pass-held = header-pass follows-self mode kind 1 (lent terms) (lent terms) term (lit≤ tt)

  pub score-held : T (fits binary32 (search X).score) × T (finite (search X).score)
  score-held = let score = (header-alike follows-self mode kind 1 (lent terms) (lent terms) term (lit≤ tt)).score in (score.fits, score.upto.finite)

  pub ceiling-held : T (fits binary32 (ceiling X)) × T (finite (ceiling X))
  ceiling-held = let held = header-ceiling follows-self mode kind 1 (lent terms) (lent terms) term (lit≤ tt) in (held.fits, held.upto.finite)
