-- ANY TERMS: at f32 the steps keep the order too, since rounding does and every sum is finite. So what is proved of the first pass holds of every
-- read that is not refused, with scores added as the receiver adds them. Assumes nothing.
use Prim.Native.Nat.{ℕ, suc, ◌+◌, ◌*◌, ◌^◌, ◌≤◌, ◌<◌}
use mathlib.Core.Path.{◌≡◌, sym, ◌∙◌, subst}
use mathlib.Core.Bool.{true, false, ◌&&◌}
use mathlib.Core.List.{List}
use native.Mathlib.Nat.{mul-le-mul_right}
use native.Mathlib.Omega.{arith}
use borrow.Author.Tests.{not-false}
use lib.Dec.{T, lit<, lit≤, T_not}
use lib.ListN.{length}
use lib.Ieee.{Float, nan, binary32, fits, le}
use lib.Ieee.Fits.{and_l, and_r, add-fits}
use Rattle.util.proofs.Some.{none_of}
use Rattle.ieee.specs.Size.{Upto}
use Rattle.ieee.proofs.Order.{le_refl, le_trans, lt→le, not-lt→le, lt→not-le, finite-not-nan}
use Rattle.ieee.proofs.Rounds.{add-mono}
use Rattle.ieee.proofs.Sizes.{upto_zero, upto-wider, upto-within, add-upto, run-upto}
use Rattle.ieee.proofs.Values.{sub-zero}
use Rattle.frame.specs.Format.{header_bits}
use Rattle.frame.proofs.Air.{header-most}
use Rattle.model.specs.Metric.{metric_of}
use Rattle.model.specs.Range.{million, out_of_range, some_out}
use Rattle.trellis.specs.Search.{closing, Found, search, ceiling}
use Rattle.trellis.specs.Answer.{Sure}
use Rattle.trellis.specs.Numbers.{single}
use Rattle.trellis.specs.Terms.{header, lent, document_search}
use Rattle.trellis.specs.Demand.{AnyTerms}
use Rattle.trellis.proofs.Best.{Ranked}
use Rattle.trellis.proofs.Handed.{search-short}
use Rattle.trellis.proofs.Ceiling.{first-ceiling, first-reached}
use Rattle.trellis.proofs.Metric.{step-within}
use Rattle.trellis.proofs.Sent.{sent-in-steps}
use Rattle.trellis.proofs.Outcomes.{score-is, first-is, first-sure}
use Rattle.trellis.proofs.Demand.{exact-first, optimal, unique, best-word, header-long}

-- what a score can be after j steps of any pass: a value of f32 of at most 4480 terms and 5 more a step, each within 2^20 (no start score of the
-- three passes is above 4480 such: Answered)
pub record Earned (j : ℕ) (x : Float) : Type 0 where
  pub held : T (fits binary32 x)
  pub upto : Upto (4480 + 5 * j) 20 x

module _ (mode kind : ℕ) (terms : List Float) (all : length terms ≡ 260 * header_bits kind) (in-range : some_out terms ≡ false) where
  abbrev earn : ℕ → ℕ → Float
  earn = (header single mode kind (lent terms)).earn

  pub term-upto : (i : ℕ) → i < 260 * header_bits kind → Upto 1 20 (lent terms i)
  term-upto i l =
      let from = le (million true) (lent terms i) in
      let to = le (lent terms i) (million false) in
      let both : T (from && to) = subst T (sym (not-false (from && to) (none_of out_of_range terms nan in-range i (subst (λ (k : ℕ). i < k) (sym all) l)))) tt in
      upto-within (record { finite = tt; size = lit≤ tt }) (record { finite = tt; size = lit≤ tt })
      (record { from = and_l from to both; to = and_r from to both })

  earn-upto : (j r : ℕ) → j < header_bits kind → Upto 5 20 (earn j r)
  unfolding metric_of
  earn-upto j r h = run-upto binary32 20 _ 5 (λ i l. term-upto _ (step-within mode kind j r i h l)) (lit< tt) (lit≤ tt)

  pub ranked : Ranked (header single mode kind (lent terms)) (λ a b. T (le a b)) Earned
  unfolding fits
  ranked =
      record {
        le_refl = λ {j} {a} o. le_refl a (finite-not-nan a o.upto.finite);
        le_trans = λ {a} {b} {c} k l. le_trans a b c k l;
        gt-le = λ {a} {b} t. lt→le b a t;
        not-gt-le = λ {j} {a} {b} o p t. not-lt→le b a (finite-not-nan b p.upto.finite) (finite-not-nan a o.upto.finite) t;
        gt_not_le = λ {a} {b} t k. T_not (le a b) (lt→not-le b a t) k;
        nil-ok = record { held = tt; upto = upto-wider (4480 + 5 * 0) 20 (upto_zero {k = 20}) (lit≤ tt) };
        step_ok = λ {j} {r} {a} k l o.
            let more : 4480 + 5 * j + 5 ≤ 4480 + 5 * suc j = omega arith in
            record {
              held = add-fits binary32 a (earn j r);
              upto =
                  upto-wider (4480 + 5 * suc j) 20 (add-upto binary32 o.upto (earn-upto j r k) (omega (arith, header-most kind)) (lit≤ tt))
                  (mul-le-mul_right (2 ^ 20) more);
            };
        step-le = λ {j} {r} {a} {b} k l o p q.
            let e = (earn-upto j r k).finite in
            add-mono binary32 a b (earn j r) (earn j r) o.upto.finite p.upto.finite e e q (le_refl (earn j r) (finite-not-nan (earn j r) e));
        sub-nil = λ {j} {a} o. sub-zero binary32 a o.held o.upto.finite;
      }

  abbrev F : Found Float
  F = search (header single mode kind (lent terms))

  abbrev top : Float
  top = ceiling (header single mode kind (lent terms))

  -- a word that is out by closing in the first pass is always Sure with pass 1
  pub sure-first : F.how ≡ closing 1 → (document_search mode kind terms).outcome ≡ Sure F.score 1
  sure-first e = first-sure single F.score top e (first-reached (header single mode kind (lent terms)) ranked (lit< tt) e)

  pub any-terms : AnyTerms mode kind terms (document_search mode kind terms)
  any-terms =
      record {
        short = search-short (header single mode kind (lent terms));
        exact = λ o.
            score-is single F.score top F.how
            ∙ sym (exact-first single 14 (lit< tt) (header_bits kind) (header-long kind) earn ranked (first-is single F.score top F.how o));
        sent = sent-in-steps single mode kind (lent terms);
        best = best-word single mode kind (lent terms)
            (λ o p w hp _. optimal single 14 (lit< tt) (header_bits kind) (header-long kind) earn ranked (first-is single F.score top F.how o) hp w)
            (λ w _ beats.
            let u = unique single 14 (lit< tt) (header_bits kind) (header-long kind) earn ranked w beats in
            (u.0, (F.score, sure-first u.1)));
        at-ceiling = λ o.
            first-ceiling (header single mode kind (lent terms)) ranked (first-is single F.score top F.how o) ∙ sym (score-is single F.score top F.how);
      }
