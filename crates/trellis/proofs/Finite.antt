-- For all accepted terms, not only whole ones: at f32 every score of the three passes is finite and never -0.0. It is the simulation of the
-- search by itself, with crate ieee's `Score` for the size, counted in units of 2 ^ 20, of which a term is at most one. Assumes nothing.
use Prim.Native.Nat.{ℕ, ◌*◌, ◌^◌, ◌≤◌, ◌<◌}
use mathlib.Core.Path.{◌≡◌, refl, sym, ap₂, subst}
use mathlib.Core.List.{List}
use mathlib.Core.Bool.{true, false}
use native.Mathlib.Nat.{le_refl, mul-le-mul_right}
use native.Mathlib.Omega.{arith}
use lib.Dec.{T, lit≤}
use lib.ListN.{length}
use lib.Ieee as Ieee
use lib.Ieee.{Float, binary32, fits}
use Rattle.ieee.specs.Size.{Upto, Score}
use Rattle.ieee.specs.Within.{Within}
use Rattle.ieee.proofs.Sizes.{upto-within}
use Rattle.ieee.proofs.Zeros.{score-zero, score-wider, score-add, score-sub}
use Rattle.frame.specs.Format.{header_bits}
use Rattle.model.specs.Range.{million}
use Rattle.trellis.specs.Trellis.{Trellis}
use Rattle.trellis.specs.Search.{scores, gain_of, begin, search}
use Rattle.trellis.specs.Numbers.{single}
use Rattle.trellis.specs.Terms.{header, lent}
use Rattle.trellis.proofs.Alike.{Follows}
use Rattle.trellis.proofs.Metric.{header-pass, header-alike}

-- the terms are accepted: f32 values, each from -1,000,000 to 1,000,000
pub record Accepted (terms : List Float) : Type 0 where
  pub held : (i : ℕ) → i < length terms → T (fits binary32 (lent terms i))
  pub within : (i : ℕ) → i < length terms → Within (million true) (million false) (lent terms i)

-- a score, and a term, which may be -0.0, stand for themselves
record Held (q : ℕ) (x y : Float) : Type 0 where
  pub same : x ≡ y
  pub score : Score binary32 q 20 x

record Term (q : ℕ) (x y : Float) : Type 0 where
  pub same : x ≡ y
  pub fits : T (fits binary32 x)
  pub upto : Upto q 20 x

follows-self : Follows single single Held Term 4480
follows-self =
    record {
      nil = record { same = refl; score = score-zero binary32 };
      wider = λ {a} {b} l h. record { same = h.same; score = score-wider binary32 b 20 h.score (mul-le-mul_right (2 ^ 20) l) };
      term = λ h. record { same = h.same; fits = h.score.fits; upto = h.score.upto };
      add =
          λ h k room. record {
            same = ap₂ (Ieee.add binary32) h.same k.same;
            score = score-add binary32 h.score k.fits k.upto (le_refl _) (omega arith) (lit≤ tt);
          };
      sub =
          λ h k room. record {
            same = ap₂ (Ieee.sub binary32) h.same k.same;
            score = score-sub binary32 h.score k.score.fits k.score.upto (le_refl _) (omega arith) (lit≤ tt);
          };
      gt = λ h k. ap₂ (λ (a b : Float). Ieee.lt b a) h.same k.same;
    }

module _ (mode kind : ℕ) (terms : List Float) (all : length terms ≡ 260 * header_bits kind) (h : Accepted terms) where
  abbrev X : Trellis Float
  X = header single mode kind (lent terms)

  term : (i : ℕ) → i < 260 * header_bits kind → Term 1 (lent terms i) (lent terms i)
  term i l =
      let there : i < length terms = subst (λ (k : ℕ). i < k) (sym all) l in
      record {
        same = refl;
        fits = h.held i there;
        upto = upto-within (record { finite = tt; size = lit≤ tt }) (record { finite = tt; size = lit≤ tt }) (h.within i there);
      }

  -- every score of pass k after j steps (j = 0: its start), none above 4,480 · 2^20
  pub scores-finite : (k j s : ℕ) → k ≤ 2 → j ≤ header_bits kind → s < 16384 → Score binary32 4480 20 (scores X (begin X k) j s)
  scores-finite k j s hk hj hs = ((header-pass follows-self mode kind 1 (lent terms) (lent terms) term (lit≤ tt) k hk).scores j s hj hs).score

  -- every state's gain
  pub gains-finite : (k s : ℕ) → k ≤ 2 → s < 16384 → Score binary32 4480 20 (gain_of X (begin X k) s)
  gains-finite k s hk hs = ((header-pass follows-self mode kind 1 (lent terms) (lent terms) term (lit≤ tt) k hk).gains s hs).score

  -- and the score that is handed out
  pub answer-finite : Score binary32 4480 20 (search X).score
  answer-finite = (header-alike follows-self mode kind 1 (lent terms) (lent terms) term (lit≤ tt)).score.score
