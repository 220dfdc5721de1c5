-- The blocks gathered so far and one more: what `push` makes is what one block more gives. Assumes nothing.
use Prim.Native.Nat.{ℕ, ◌+◌, ◌≤◌, ◌<◌}
use mathlib.Core.Bool.{Bool, true, false, ◌&&◌, and-false}
use mathlib.Core.List.{List}
use mathlib.Core.Path.{◌≡◌, refl, sym, ap, ◌∙◌, subst⁻¹}
use native.Mathlib.Nat.{not-suc-le-zero, ne_of_lt, le_trans}
use native.Mathlib.Numerals.{add-one}
use native.Mathlib.Omega.{arith}
use borrow.Author.Count.{below_more}
use borrow.Author.Tests.{leb-true, le-leb, ltb-true, ltb-false}
use lib.Dec.{leb, ltb, leb-zero}
use lib.ListN.{length, get_or, set, length-set, length-replicate}
use lib.Seq.{get_or-set_same, get_or-set_other}
use Rattle.util.specs.Choose.{choose}
use Rattle.util.specs.Every.{every}
use Rattle.blocks.specs.Doubles.{as_f64, within}
use Rattle.blocks.specs.Blocks.{nowhere, place2_at, timing_at, before, good_at}
use Rattle.blocks.specs.Inside.{origin, point_of, nothing, push_of, Gathers}
use Rattle.blocks.specs.declared.Block.{Block}
use Rattle.blocks.specs.declared.Point.{Point}
use Rattle.blocks.specs.declared.Gathered.{Gathered}
use Rattle.util.proofs.Every.{every-next}

-- the greater of two is at most m where both are
top-both : (a b m : ℕ) → leb (choose (ltb a b) b a) m ≡ leb a m && leb b m
top-both a b m = by (ltb a b) refl
  where
    second : (t : Bool) → leb b m ≡ t → a < b → leb b m ≡ leb a m && leb b m
    second true p h = p ∙ sym (λ i. le-leb a m (omega (arith, h, leb-true b m p)) i && p i)
    second false p h = p ∙ sym (ap (λ (t : Bool). leb a m && t) p ∙ and-false (leb a m))

    first : (t : Bool) → leb a m ≡ t → b ≤ a → leb a m ≡ leb a m && leb b m
    first true p h = p ∙ sym (λ i. p i && le-leb b m (le_trans h (leb-true a m p)) i)
    first false p h = p ∙ sym (ap (λ (t : Bool). t && leb b m) p)

    by : (t : Bool) → ltb a b ≡ t → leb (choose (ltb a b) b a) m ≡ leb a m && leb b m
    by true p = ap (λ (t : Bool). leb (choose t b a) m) p ∙ second (leb b m) refl (ltb-true a b p)
    by false p = ap (λ (t : Bool). leb (choose t b a) m) p ∙ first (leb a m) refl (ltb-false a b p)

pub gathers-none : (bs : List Block) → Gathers bs 0 nothing
unfolding every
gathers-none bs =
    record {
      long = length-replicate {A = Point} 64 origin;
      points = λ i h. absurd (not-suc-le-zero h);
      last = refl;
      top = λ most. leb-zero most;
      good = refl;
    }

-- one more point in a list
one_more : (l : List Point) (i : ℕ) (v : Point) (x : ℕ → Point) → i < length l → v ≡ x i → ((k : ℕ) → k < i → get_or l k origin ≡ x k) → (k : ℕ)
    → k < i + 1 → get_or (set l i v) k origin ≡ x k
one_more l i v x h e old =
    below_more (λ (k : ℕ). get_or (set l i v) k origin ≡ x k) i (λ k less. get_or-set_other l i k v origin (ne_of_lt less) ∙ old k less)
    (get_or-set_same l i v origin h ∙ e)

pushed : (bs : List Block) (i : ℕ) (g : Gathered) → i < 64 → Gathers bs i g → Gathers bs (i + 1) (push_of g i (get_or bs i nowhere))
pushed bs i g h so =
    record {
      long = length-set g.points i (point_of (get_or bs i nowhere)) ∙ so.long;
      points = one_more g.points i (point_of (get_or bs i nowhere)) (λ k. point_of (get_or bs k nowhere)) (omega (arith, h, so.long)) refl so.points;
      last = sym (ap (before (place2_at bs)) (add-one i));
      top = λ most. top-both g.top b2 most ∙ ap (λ (t : Bool). t && leb b2 most) (so.top most) ∙ sym (every-next (λ k. leb (place2_at bs k) most) i);
      good = (λ j. so.good j && (leb (so.last j) b2 && (leb b2 4096 && within (as_f64 4096) (timing_at bs i)))) ∙ sym (every-next (good_at bs) i);
    }
  where
    b2 : ℕ
    b2 = place2_at bs i

pub gathers-more : (bs : List Block) (i : ℕ) (g r : Gathered) → i < 64 → r ≡ push_of g i (get_or bs i nowhere) → Gathers bs i g → Gathers bs (i + 1) r
gathers-more bs i g r h e so = subst⁻¹ (Gathers bs (i + 1)) e (pushed bs i g h so)
