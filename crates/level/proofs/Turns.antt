-- One turn of each loop over a row: a bin more counted, the bin of a value more compared, a bin more tried and marked. Assumes nothing.
use Prim.Native.Nat.{ℕ, ◌+◌, ◌-◌, ◌≤◌, ◌<◌}
use mathlib.Core.Bool.{Bool, true, false, ◌&&◌, true≢false}
use mathlib.Core.List.{List}
use mathlib.Core.Option.{none, some}
use mathlib.Core.Path.{◌≡◌, refl, sym, ap, ap₂, ◌∙◌}
use native.Mathlib.Omega.{arith}
use lib.Dec.{eqb}
use native.Mathlib.Nat.{ne_of_gt}
use borrow.Author.Count.{below_more}
use lib.ListN.{length, get_or, set, length-set, replicate, get_or-replicate}
use lib.Seq.{get_or-set_other}
use Rattle.util.proofs.Choose.{chosen, not_chosen}
use Rattle.util.proofs.Fill.{up_done}
use lib.Ieee.{Float, nan, lt}
use Rattle.util.specs.Choose.{choose}
use Rattle.level.specs.Row.{stronger, strongest_to}
use Rattle.level.specs.Rank.{passes, once, count_of}
use Rattle.level.proofs.Counting.{count-further}
use Rattle.level.proofs.Tone.{strongest-turn}
use Rattle.level.specs.Inside.{held_at}

-- a bin by its mark and its value
pub held-passes : (test : Float → Bool) (marks : List ℕ) (values : List Float) (base b : ℕ)
    → (eqb (get_or marks (base + b) 0) 1 && test (get_or values (base + b) nan)) ≡ passes test (held_at marks values base b)
unfolding held_at
held-passes test marks values base b = by (eqb (get_or marks (base + b) 0) 1)
  where
    by : (t : Bool) → (t && test (get_or values (base + b) nan)) ≡ passes test (choose t (some (get_or values (base + b) nan)) none)
    by true = refl
    by false = refl

-- the count with the bin of this turn
pub counted-more : (test : Float → Bool) (marks : List ℕ) (values : List Float) (base b n c : ℕ)
    → n ≡ count_of test (held_at marks values base) b → c ≡ once (eqb (get_or marks (base + b) 0) 1 && test (get_or values (base + b) nan))
    → n + c ≡ count_of test (held_at marks values base) (b + 1)
counted-more test marks values base b n c so_far one =
    ap (λ (d : ℕ). n + d) (one ∙ ap once (held-passes test marks values base b)) ∙ count-further test (held_at marks values base) b so_far

-- ---- the strongest of the values to v - 1, and the bin of value v at place e: the strongest of those to v
module _ (row : ℕ → Float) (place : ℕ → ℕ) (v best e : ℕ) (some-before : 0 < v) (so_far : best ≡ strongest_to row place (v - 1)) (here : e ≡ place v) where
  strongest-next : strongest_to row place (v + 1 - 1) ≡ stronger row best e
  strongest-next =
      let own : v + 1 - 1 ≡ v = omega arith in
      ap (strongest_to row place) own ∙ strongest-turn row place v some-before ∙ ap₂ (stronger row) (sym so_far) (sym here)

  pub strongest-new : lt (row best) (row e) ≡ true → e ≡ strongest_to row place (v + 1 - 1)
  strongest-new t = sym (strongest-next ∙ chosen e best t)

  pub strongest-kept : lt (row best) (row e) ≡ false → best ≡ strongest_to row place (v + 1 - 1)
  strongest-kept t = sym (strongest-next ∙ not_chosen e best t)

-- a bin that is there and passes: its value
pub held-there : (test : Float → Bool) (marks : List ℕ) (values : List Float) (base b : ℕ) → passes test (held_at marks values base b) ≡ true
    → (held_at marks values base b ≡ some (get_or values (base + b) nan)) × (test (get_or values (base + b) nan) ≡ true)
unfolding held_at
held-there test marks values base b = by (eqb (get_or marks (base + b) 0) 1)
  where
    by : (t : Bool) → passes test (choose t (some (get_or values (base + b) nan)) none) ≡ true
        → (choose t (some (get_or values (base + b) nan)) none ≡ some (get_or values (base + b) nan)) × (test (get_or values (base + b) nan) ≡ true)
    by true e = (refl, e)
    by false e = absurd (true≢false (sym e))

-- what is held of a bin, by its mark
module _ (test : Float → Bool) (marks : List ℕ) (values : List Float) (base b : ℕ) where
  pub held-is : eqb (get_or marks (base + b) 0) 1 ≡ true → passes test (held_at marks values base b) ≡ test (get_or values (base + b) nan)
  held-is t = sym (held-passes test marks values base b) ∙ ap (λ (u : Bool). u && test (get_or values (base + b) nan)) t

  pub held-not : eqb (get_or marks (base + b) 0) 1 ≡ false → passes test (held_at marks values base b) ≡ false
  held-not t = sym (held-passes test marks values base b) ∙ ap (λ (u : Bool). u && test (get_or values (base + b) nan)) t

-- ---- a list of 52 begun with one value: the places passed have theirs, the others are as begun
pub record Passed {A : Type 0} (d begun : A) (f : ℕ → A) (b : ℕ) (out : List A) : Type 0 where
  pub size : length out ≡ 52
  pub done : (k : ℕ) → k < b → get_or out k d ≡ f k
  pub rest : (k : ℕ) → b ≤ k → k < 52 → get_or out k d ≡ begun

module _ {A : Type 0} (d begun : A) (f : ℕ → A) where
  pub passed_none : Passed d begun f 0 (replicate 52 begun)
  passed_none = record { size = refl; done = λ k h. absurd (omega arith); rest = λ k l h. get_or-replicate 52 k begun d h }

  -- a place written
  pub passed-more : (b : ℕ) (out : List A) (v : A) → b < 52 → v ≡ f b → Passed d begun f b out → Passed d begun f (b + 1) (set out b v)
  passed-more b out v h e p =
      record {
        size = length-set out b v ∙ p.size;
        done = up_done out b v d f (omega (arith, p.size)) e p.done;
        rest = λ k l m. let far : b < k = omega arith in get_or-set_other out b k v d (ne_of_gt far) ∙ p.rest k (omega arith) m;
      }

  -- a place left as it was begun
  pub passed-left : (b : ℕ) (out : List A) → b < 52 → begun ≡ f b → Passed d begun f b out → Passed d begun f (b + 1) out
  passed-left b out h e p =
      record {
        size = p.size;
        done = below_more (λ (k : ℕ). get_or out k d ≡ f k) b p.done (p.rest b (omega arith) h ∙ e);
        rest = λ k l m. p.rest k (omega arith) m;
      }
