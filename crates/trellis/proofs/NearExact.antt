-- HOW FAR F32 IS FROM THE TRUTH: what rounding loses in a walk (Rounding) and between two, what may lie above the ceiling and how far the answered
-- score is from the word's (NearCeiling), and so what may lie above a Sure word. And all that the header read promises of its answer. Assumes nothing.
use Prim.Native.Nat.{ℕ, ◌+◌, ◌-◌, ◌*◌, ◌≤◌}
use native.Mathlib.Nat.{le_trans}
use mathlib.Core.Path.{◌≡◌, refl, sym, ◌∙◌, subst, subst₂}
use mathlib.Core.Bool.{Bool, true, false, not}
use mathlib.Core.List.{List}
use native.Mathlib.Omega.{arith}
use lib.Dec.{T}
use lib.ListN.{length}
use lib.IntN.{ℤ, pos, ◌+ℤ◌, +ℤ_assoc, +ℤ_idr}
use lib.Signed.{◌≤ℤ◌, lt_z_no, clash_ℤ}
use lib.Ieee.{Float, lt}
use lib.Ieee.Bits.{is_false}
use Rattle.ieee.specs.Units.{Near}
use Rattle.ieee.proofs.Integers.{abs-add}
use Rattle.ieee.proofs.Order.{le→not-lt}
use Rattle.ieee.proofs.Units.{lt-units}
use Rattle.frame.specs.Format.{header_bits}
use Rattle.conv.specs.Encoder.{made, bit}
use Rattle.model.specs.Range.{some_out}
use Rattle.trellis.specs.Search.{Found, search, ceiling}
use Rattle.trellis.specs.Numbers.{single, whole}
use Rattle.trellis.specs.Terms.{header, lent, document_search, UnitTerms}
use Rattle.trellis.specs.Demand.{walk, closed, lost, margin, Unbeaten, AnyTerms, NearExact, Claims}
use Rattle.trellis.proofs.Integers.{≤ℤ-trans, ≤ℤ-add, ≤ℤ-apart}
use Rattle.trellis.proofs.Handed.{ended}
use Rattle.trellis.proofs.Outcomes.{score-is, not-open, sure-closed, sure-says}
use Rattle.trellis.proofs.Demand.{demand-3, bounded, unbeaten, best-word}
use Rattle.trellis.proofs.AnyTerms.{any-terms}
use Rattle.trellis.proofs.Rounding.{up_by, walk-near}
use Rattle.trellis.proofs.NearCeiling.{near-bounded, near-score}
use Rattle.trellis.proofs.Graded.{graded}

module _ (mode kind a : ℕ) (terms : List Float) (ints : ℕ → ℤ) (all : length terms ≡ 260 * header_bits kind) (h : UnitTerms a terms ints) (few : a ≤ 20) where
  -- twice what is lost in one score
  twice : lost a + lost a ≡ margin a
  twice = omega (arith, up_by (a + 149 - 9) (a + 149 - 8) 1 (omega arith))

  -- two walks: where one's f32 score is at most the other's, so is its exact score, but for twice as much
  order-near : (p v q w : ℕ) → (lt (walk single mode kind (lent terms) q w) (walk single mode kind (lent terms) p v) ≡ false)
      → walk whole mode kind ints p v ≤ℤ (walk whole mode kind ints q w +ℤ pos (margin a))
  order-near p v q w e =
      let x = walk-near mode kind a terms ints all h few p v in
      let y = walk-near mode kind a terms ints all h few q w in
      subst (λ (k : ℕ). walk whole mode kind ints p v ≤ℤ (walk whole mode kind ints q w +ℤ pos k)) twice
      (≤ℤ-apart (walk whole mode kind ints p v) (walk whole mode kind ints q w) x.off y.off (lost a) (lost a)
      (lt_z_no (subst (λ (t : Bool). T (not t)) (sym e ∙ lt-units y.is x.is) tt)) x.small y.small)

  module _ (in-range : some_out terms ≡ false) where
    abbrev F : Found Float
    F = search (header single mode kind (lent terms))

    abbrev top : Float
    top = ceiling (header single mode kind (lent terms))

    abbrev word : ℕ
    word = F.word

    -- a Sure word's score is not below the ceiling, no word's exact score is above this by more than is lost, nor its own below its score
    near-unbeaten : Unbeaten (λ x y. x ≤ℤ (y +ℤ pos (margin a))) mode kind ints (document_search mode kind terms)
    near-unbeaten (x, q, e) w l =
        let above = (sure-says single F.score top (ended (header single mode kind (lent terms))) x q e).1 in
        let own = near-score mode kind a terms ints all h few in-range (not-open single F.score top F.how (sure-closed single F.score top F.how (x, q, e))) in
        let bound = near-bounded mode kind a terms ints all h few in-range in
        let reached : bound.bound ≤ℤ (closed whole mode kind ints word +ℤ own.off) =
        lt_z_no (subst (λ (t : Bool). T (not t)) (sym above ∙ lt-units own.is bound.is) tt) in
        let both : (closed whole mode kind ints w +ℤ pos 0) ≤ℤ (closed whole mode kind ints word +ℤ (own.off +ℤ pos (lost a))) =
        subst₂ ◌≤ℤ◌ (sym (+ℤ_idr (closed whole mode kind ints w))) (+ℤ_assoc (closed whole mode kind ints word) own.off (pos (lost a)))
        (≤ℤ-trans (bound.none_above w l) (≤ℤ-add (pos (lost a)) reached)) in
        let no_more : 0 + (lost a + lost a) ≡ margin a = omega (arith, twice) in
        subst (λ (k : ℕ). closed whole mode kind ints w ≤ℤ (closed whole mode kind ints word +ℤ pos k)) no_more
        (≤ℤ-apart (closed whole mode kind ints w) (closed whole mode kind ints word) (pos 0) (own.off +ℤ pos (lost a)) 0 (lost a + lost a) both (omega arith)
        (le_trans (abs-add own.off (pos (lost a))) (omega (arith, own.small))))

    any : AnyTerms mode kind terms (document_search mode kind terms)
    any = any-terms mode kind terms all in-range

    pub near-exact : NearExact mode kind a ints terms (document_search mode kind terms)
    near-exact =
        record {
          near = walk-near mode kind a terms ints all h few;
          exact = λ o.
              subst (λ (x : Float). Near 149 (lost a) x (closed whole mode kind ints word)) (sym (score-is single F.score top F.how))
              (near-score mode kind a terms ints all h few in-range (not-open single F.score top F.how o));
          best = best-word whole mode kind ints
              (λ o p w hp hw. order-near p w (made (bit word) (header_bits kind) 14) word (is_false _ (le→not-lt _ _ (any.best.optimal o p w hp hw))))
              (λ w hw beats.
              any.best.unique w hw
              (λ p v hp hv other. above _ (λ e. clash_ℤ (beats p v hp hv other) (order-near (made (bit w) (header_bits kind) 14) w p v e))));
          bounded = near-bounded mode kind a terms ints all h few in-range;
          unbeaten = near-unbeaten;
        }
      where
        above : (t : Bool) → (t ≡ false → ⊥) → T t
        above true h = tt
        above false h = absurd (h refl)

-- what the header read promises of its answer, for every read that is not refused
pub claims : (mode kind : ℕ) (terms : List Float) → length terms ≡ 260 * header_bits kind → some_out terms ≡ false
    → Claims mode kind terms (document_search mode kind terms)
claims mode kind terms all in-range =
    record {
      whole = λ ints h. demand-3 mode kind terms ints all h;
      bounded = λ ints h. bounded mode kind terms ints all h;
      unbeaten = λ ints h. unbeaten mode kind terms ints all h;
      graded = graded mode kind terms all in-range;
      any = any-terms mode kind terms all in-range;
      near = λ a ints few h. near-exact mode kind a terms ints all h few in-range;
    }
