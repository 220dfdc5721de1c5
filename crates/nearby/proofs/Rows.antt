-- The 25 places: what a row more adds to sums and counts, and how a row that comes in moves them on by one. Assumes nothing.
use Prim.Native.Nat.{ℕ, zero, suc, ◌+◌, ◌*◌, ◌%◌, ◌≤◌, ◌<◌}
use mathlib.Core.Bool.{Bool, true, false}
use mathlib.Core.List.{List}
use mathlib.Core.Logic.{⊎_elim}
use mathlib.Core.Option.{Option, none, some}
use mathlib.Core.Path.{◌≡◌, refl, sym, ap, ap₂, subst, ◌∙◌}
use native.Mathlib.Numerals.{add-one}
use native.Mathlib.Omega.{arith}
use lib.Dec.{eqb}
use lib.ListN.{length, get_or, replicate, get_or-replicate}
use lib.Ieee.{Float, nan, binary32, add}
use Rattle.util.specs.Choose.{choose}
use Rattle.ieee.specs.Whole.{plus_zero}
use Rattle.util.proofs.Fill.{below_or_not}
use Rattle.level.specs.Row.{is_around, held_of}
use Rattle.level.specs.Rank.{passes, once, count_of}
use Rattle.level.specs.Inside.{mark_of, held_at}
use Rattle.level.proofs.Counting.{count_next, count_most}
use Rattle.nearby.specs.Sum.{with_next, sum_of}
use Rattle.nearby.specs.Inside.{Each, placed, Moved, Summed, Counted}

-- ---- a row more in the sums and in the counts

pub with-held : (marks : List ℕ) (values : List Float) (base b : ℕ) (s : Float)
    → choose (eqb (get_or marks (base + b) 0) 1) (add binary32 s (get_or values (base + b) nan)) s ≡ with_next s (held_at marks values base b)
unfolding held_at
with-held marks values base b s = by (eqb (get_or marks (base + b) 0) 1)
  where
    by : (t : Bool) → choose t (add binary32 s (get_or values (base + b) nan)) s ≡ with_next s (choose t (some (get_or values (base + b) nan)) none)
    by true = refl
    by false = refl

count_held : (marks : List ℕ) (values : List Float) (base b : ℕ) → once (eqb (get_or marks (base + b) 0) 1) ≡ once (passes (λ x. true) (held_at marks values base b))
unfolding held_at
count_held marks values base b = by (eqb (get_or marks (base + b) 0) 1)
  where
    by : (t : Bool) → once t ≡ once (passes (λ x. true) (choose t (some (get_or values (base + b) nan)) none))
    by true = refl
    by false = refl

sum-next : (held : ℕ → Option Float) (n : ℕ) → sum_of held (n + 1) ≡ with_next (sum_of held n) (held n)
unfolding sum_of
sum-next held n = ap (sum_of held) (add-one n)

-- equal cells have equal sums
pub sum_same : (held other : ℕ → Option Float) (n : ℕ) → ((k : ℕ) → k < n → held k ≡ other k) → sum_of held n ≡ sum_of other n
unfolding sum_of
sum_same held other zero e = refl
sum_same held other (suc n) e = ap₂ with_next (sum_same held other n (λ k h. e k (omega arith))) (e n (omega arith))

module _ (marks : List ℕ) (values : List Float) (n m : ℕ) where
  pub summed-more : (was new : List Float) → Summed marks values n m was → Each nan 52 (λ b s. with_next s (placed marks values (n + m) b)) was new
      → Summed marks values n (m + 1) new
  summed-more was new s e =
      record {
        size = e.size ∙ s.size;
        each = λ b h. e.done b h ∙ ap (λ (x : Float). with_next x (placed marks values (n + m) b)) (s.each b h)
            ∙ sym (sum-next (λ k. placed marks values (n + k) b) m);
      }

  pub counted-more : (was new : List ℕ) → Counted marks values n m was
      → Each 0 52 (λ b c. c + once (eqb (get_or marks (52 * ((n + m) % 25) + b) 0) 1)) was new → Counted marks values n (m + 1) new
  counted-more was new s e =
      record {
        size = e.size ∙ s.size;
        each = λ b h. e.done b h ∙ ap₂ ◌+◌ (s.each b h) (count_held marks values (52 * ((n + m) % 25)) b)
            ∙ sym (count_next (λ x. true) (λ k. placed marks values (n + k) b) m);
      }

  -- a count is at most that of the places
  pub counted-few : (counts : List ℕ) → Counted marks values n m counts → (b : ℕ) → b < 52 → get_or counts b 0 ≤ m
  counted-few counts s b h = subst (λ (c : ℕ). c ≤ m) (sym (s.each b h)) (count_most (λ x. true) (λ k. placed marks values (n + k) b) m)

-- none so far
pub summed-none : (marks : List ℕ) (values : List Float) (n : ℕ) → Summed marks values n 0 (replicate 52 plus_zero)
unfolding sum_of
summed-none marks values n = record { size = refl; each = λ b h. get_or-replicate 52 b plus_zero nan h }

pub counted_none : (marks : List ℕ) (values : List Float) (n : ℕ) → Counted marks values n 0 (replicate 52 0)
unfolding count_of
counted_none marks values n = record { size = refl; each = λ b h. get_or-replicate 52 b 0 0 h }

-- ---- a row that comes in

held_same : (marks marks' : List ℕ) (values values' : List Float) (base b : ℕ) → get_or marks' (base + b) 0 ≡ get_or marks (base + b) 0
    → get_or values' (base + b) nan ≡ get_or values (base + b) nan → held_at marks' values' base b ≡ held_at marks values base b
unfolding held_at
held_same marks marks' values values' base b e f = ap₂ (λ (m : ℕ) (x : Float). choose (eqb m 1) (some x) none) e f

-- outside of the 52 from base on both lists are as they were
pub record Kept (base : ℕ) (marks : List ℕ) (values : List Float) (marks' : List ℕ) (values' : List Float) : Type 0 where
  pub marks-before : (k : ℕ) → k < base → get_or marks' k 0 ≡ get_or marks k 0
  pub marks-after : (k : ℕ) → base + 52 ≤ k → get_or marks' k 0 ≡ get_or marks k 0
  pub values-before : (k : ℕ) → k < base → get_or values' k nan ≡ get_or values k nan
  pub values-after : (k : ℕ) → base + 52 ≤ k → get_or values' k nan ≡ get_or values k nan

module _ (n : ℕ) (marks : List ℕ) (values : List Float) (marks' : List ℕ) (values' : List Float) (kept : Kept (52 * (n % 25)) marks values marks' values') where
  elsewhere : (m b : ℕ) → (m % 25 ≡ n % 25 → ⊥) → b < 52 → placed marks' values' m b ≡ placed marks values m b
  elsewhere m b other h =
      ⊎_elim
      (λ low. let out : 52 * (m % 25) + b < 52 * (n % 25) = omega arith in
      held_same marks marks' values values' (52 * (m % 25)) b (kept.marks-before _ out) (kept.values-before _ out))
      (λ high. let out : 52 * (n % 25) + 52 ≤ 52 * (m % 25) + b = omega (arith, other) in
      held_same marks marks' values values' (52 * (m % 25)) b (kept.marks-after _ out) (kept.values-after _ out))
      (below_or_not (m % 25) (n % 25))

  pub moved : (bins : ℕ → Option Float) → length marks' ≡ length marks → length values' ≡ length values
      → ((b : ℕ) → b < 52 → placed marks' values' n b ≡ bins b) → Moved n bins marks values marks' values'
  moved bins m-size v-size came =
      record {
        on = λ row is near. record {
          marks-long = m-size ∙ near.marks-long;
          values-long = v-size ∙ near.values-long;
          rows = λ k b h j. ⊎_elim
              (λ low.
              let up : n + 1 + k ≡ n + (k + 1) = omega arith in
              let other : (n + 1 + k) % 25 ≡ n % 25 → ⊥ = λ e. omega arith in
              elsewhere (n + 1 + k) b other j ∙ ap (λ (m : ℕ). placed marks values m b) up ∙ near.rows (k + 1) b (omega arith) j ∙ ap (λ (m : ℕ). row m b) (sym up))
              (λ high.
              let last : n + 1 + k ≡ n + 25 = omega arith in
              let place : (n + 25) % 25 ≡ n % 25 = omega arith in
              ap (λ (m : ℕ). placed marks' values' m b) last ∙ ap (λ (p : ℕ). held_at marks' values' (52 * p) b) place ∙ came b j ∙ sym (is b j)
              ∙ ap (λ (m : ℕ). row m b) (sym last))
              (below_or_not k 24);
        };
      }

-- a row by its marks and its values
pub held-is : (marks : List ℕ) (values : List Float) (base e b : ℕ) (row : ℕ → Float) → get_or marks (base + b) 0 ≡ mark_of e b
    → get_or values (base + b) nan ≡ row b → held_at marks values base b ≡ held_of row e b
unfolding held_at held_of
held-is marks values base e b row m v = ap₂ (λ (k : ℕ) (x : Float). choose (eqb k 1) (some x) none) m v ∙ by (is_around e b)
  where
    by : (t : Bool) → choose (eqb (choose t 0 1) 1) (some (row b)) none ≡ choose t none (some (row b))
    by true = refl
    by false = refl

pub held-missing : (marks : List ℕ) (values : List Float) (base b : ℕ) → get_or marks (base + b) 0 ≡ 0 → held_at marks values base b ≡ none
unfolding held_at
held-missing marks values base b m = ap (λ (k : ℕ). choose (eqb k 1) (some (get_or values (base + b) nan)) none) m
