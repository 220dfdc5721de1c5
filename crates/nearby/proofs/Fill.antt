-- A list written place by place: 52 places from base on, or every place through a function of it. Assumes nothing.
use Prim.Native.Nat.{ℕ, ◌+◌, ◌<◌}
use mathlib.Core.List.{List}
use mathlib.Core.Path.{◌≡◌, refl, ap, ◌∙◌}
use native.Mathlib.Nat.{ne_of_lt, ne_of_gt, not-suc-le-zero}
use native.Mathlib.Omega.{arith}
use borrow.Author.Count.{below_more}
use lib.ListN.{length, get_or, set, length-set}
use lib.Seq.{get_or-set_same, get_or-set_other}
use Rattle.util.proofs.Fill.{row-begun, row_more}
use Rattle.nearby.specs.Inside.{Put, Each, Onward}

module _ {A : Type 0} (d : A) where
  pub put-begun : (base : ℕ) (row : ℕ → A) (l : List A) → Put d 0 base row l l
  put-begun base row l = record { stored = row-begun d base row l; after = λ k h. refl }

  pub put-more : (w base : ℕ) (row : ℕ → A) (was l : List A) (v : A) → Put d w base row was l → base + w < length was → v ≡ row w
      → Put d (w + 1) base row was (set l (base + w) v)
  put-more w base row was l v s h e =
      record {
        stored = row_more d w base row was l v s.stored h e;
        after = λ k p. let q : base + w < k = omega arith in get_or-set_other l (base + w) k v d (ne_of_gt q) ∙ s.after k (omega arith);
      }

  pub each-begun : (f : ℕ → A → A) (l : List A) → Each d 0 f l l
  each-begun f l = record { size = refl; done = λ k h. absurd (not-suc-le-zero h); rest = λ k h. refl }

  -- the place not yet written is as it was: what is written is made of it
  pub each_more : (w : ℕ) (f : ℕ → A → A) (was l : List A) (v : A) → Each d w f was l → w < length was → v ≡ f w (get_or l w d) → Each d (w + 1) f was (set l w v)
  each_more w f was l v s h e =
      record {
        size = length-set l w v ∙ s.size;
        done = below_more (λ (k : ℕ). get_or (set l w v) k d ≡ f k (get_or was k d)) w
            (λ k p. get_or-set_other l w k v d (ne_of_lt p) ∙ s.done k p)
            (get_or-set_same l w v d (omega (arith, s.size)) ∙ e ∙ ap (f w) (s.rest w (omega arith)));
        rest = λ k p. let q : w < k = omega arith in get_or-set_other l w k v d (ne_of_gt q) ∙ s.rest k (omega arith);
      }

  -- one place more
  pub onward-more : (from w : ℕ) (f : ℕ → A → A) (was l : List A) (v : A) → Onward d from w f was l → length l ≡ length was → w < length was
      → v ≡ f w (get_or l w d) → Onward d from (w + 1) f was (set l w v)
  onward-more from w f was l v o size h e =
      record {
        on = λ first p. let q = o.on first p in each_more w f first l v q (omega (arith, q.size, size)) e;
        rest = λ k p. let far : w < k = omega arith in get_or-set_other l w k v d (ne_of_gt far) ∙ o.rest k (omega arith);
      }
