-- Counting over values some of which are missing: what one cell more adds, how many there can be, how the first that passes is found, and that equal
-- cells have equal counts and ranks. Assumes nothing.
use Prim.Native.Nat.{ℕ, zero, suc, ◌+◌, ◌-◌, ◌≤◌, ◌<◌}
use mathlib.Core.Bool.{Bool, true, false, ◌&&◌}
use mathlib.Core.Logic.{◌⊎◌, inl, inr, ⊎_elim}
use mathlib.Core.Option.{Option, none, some, none-ne-some}
use mathlib.Core.Path.{◌≡◌, refl, sym, ap, ap₂, subst, fun_ext, ◌∙◌}
use native.Mathlib.Nat.{le_of_suc-le-suc, eq-or-lt_of_le}
use native.Mathlib.Numerals.{add-one}
use native.Mathlib.Omega.{arith}
use lib.Dec.{T, leb, ltb, leb→le, ltb→lt}
use borrow.Author.Tests.{le-leb, lt-ltb}
use lib.Ieee.{Float, lt, le}
use lib.Ieee.Fits.{and_l, and_r}
use Rattle.ieee.specs.Whole.{plus_zero}
use Rattle.util.specs.Choose.{choose}
use Rattle.util.proofs.Choose.{chosen, not_chosen}
use Rattle.level.specs.Rank.{passes, once, count_of, there_of, ranks, or_next, first_that, or_zero, of_rank}

-- the cells below n are equal
abbrev pub Same : (ℕ → Option Float) → (ℕ → Option Float) → ℕ → Type 0
Same held other n = (b : ℕ) → b < n → held b ≡ other b

-- ---- how many there can be
-- a test that implies another, of a value that may be missing
passes-more : (t u : Float → Bool) (cell : Option Float) → ((x : Float) → cell ≡ some x → T (t x) → T (u x))
    → once (passes t cell) ≤ once (passes u cell)
passes-more t u none h = omega arith
passes-more t u (some x) h = by (t x) (u x) (h x refl)
  where
    by : (a b : Bool) → (T a → T b) → once a ≤ once b
    by false false g = omega arith
    by false true g = omega arith
    by true true g = omega arith
    by true false g = absurd (g tt)

pub once-small : (t : Bool) → once t ≤ 1
once-small true = omega arith
once-small false = omega arith

-- a test that implies another, of the values that are there, counts no more
pub count-more : (t u : Float → Bool) (held : ℕ → Option Float) (n : ℕ)
    → ((b : ℕ) (x : Float) → b < n → held b ≡ some x → T (t x) → T (u x)) → count_of t held n ≤ count_of u held n
unfolding count_of
count-more t u held zero h = omega arith
count-more t u held (suc n) h =
    omega (
      arith,
      count-more t u held n (λ b x k. h b x (omega arith)),
      passes-more t u (held n) (λ x. h n x (omega arith)),
    )

module _ (t : Float → Bool) (held : ℕ → Option Float) where
  -- one cell more
  pub count_next : (n : ℕ) → count_of t held (n + 1) ≡ count_of t held n + once (passes t (held n))
  unfolding count_of
  count_next n = ap (count_of t held) (add-one n)

  -- by the cell: one that is missing, one that fails, one that passes
  pub count-missing : (n : ℕ) → held n ≡ none → count_of t held (n + 1) ≡ count_of t held n
  count-missing n c =
      let here : ◌≡◌ {A = ℕ} (once (passes t (held n))) 0 = ap (λ (cell : Option Float). once (passes t cell)) c in
      omega (arith, count_next n)

  pub count-fails : (n : ℕ) (x : Float) → held n ≡ some x → t x ≡ false → count_of t held (n + 1) ≡ count_of t held n
  count-fails n x c f =
      let here : ◌≡◌ {A = ℕ} (once (passes t (held n))) 0 = ap (λ (cell : Option Float). once (passes t cell)) c ∙ not_chosen 1 0 f in
      omega (arith, count_next n)

  pub count-passes : (n : ℕ) (x : Float) → held n ≡ some x → t x ≡ true → count_of t held (n + 1) ≡ count_of t held n + 1
  count-passes n x c p =
      let here : ◌≡◌ {A = ℕ} (once (passes t (held n))) 1 = ap (λ (cell : Option Float). once (passes t cell)) c ∙ chosen 1 0 p in
      omega (arith, count_next n)

  -- it is one more at most, and never less
  pub count-by-one : (n : ℕ) → count_of t held (n + 1) ≤ count_of t held n + 1
  count-by-one n = omega (arith, count_next n, once-small (passes t (held n)))

  pub count-grows : (n : ℕ) → count_of t held n ≤ count_of t held (n + 1)
  count-grows n = omega (arith, count_next n)

  -- what a loop has counted so far, and one cell more
  pub count-further : (n : ℕ) {c : ℕ} → c ≡ count_of t held n → c + once (passes t (held n)) ≡ count_of t held (n + 1)
  count-further n e = omega (arith, count_next n)

  -- at most all, and at most those that are there
  pub count_most : (n : ℕ) → count_of t held n ≤ n
  unfolding count_of
  count_most zero = omega arith
  count_most (suc n) = omega (arith, count_most n, once-small (passes t (held n)))

  pub count-there : (n : ℕ) → count_of t held n ≤ there_of held n
  count-there n = count-more t (λ x. true) held n (λ b x h e p. tt)

  -- cells that are there and pass, and cells that are missing, from s on
  pub count-all : (s r : ℕ) → ((b : ℕ) → s ≤ b → b < s + r → passes t (held b) ≡ true) → count_of t held (s + r) ≡ count_of t held s + r
  unfolding count_of
  count-all s zero h = let e : s + 0 ≡ s = omega arith in ap (count_of t held) e ∙ (omega arith)
  count-all s (suc r) h =
      let e : s + suc r ≡ suc (s + r) = omega arith in
      let here : ◌≡◌ {A = ℕ} (once (passes t (held (s + r)))) 1 = chosen 1 0 (h (s + r) (omega arith) (omega arith)) in
      ap (count_of t held) e ∙ (omega (arith, here, count-all s r (λ b k l. h b k (omega arith))))

  pub count_none : (s r : ℕ) → ((b : ℕ) → s ≤ b → b < s + r → passes t (held b) ≡ false) → count_of t held (s + r) ≡ count_of t held s
  unfolding count_of
  count_none s zero h = let e : s + 0 ≡ s = omega arith in ap (count_of t held) e
  count_none s (suc r) h =
      let e : s + suc r ≡ suc (s + r) = omega arith in
      let here : ◌≡◌ {A = ℕ} (once (passes t (held (s + r)))) 0 = not_chosen 1 0 (h (s + r) (omega arith) (omega arith)) in
      ap (count_of t held) e ∙ (omega (arith, here, count_none s r (λ b k l. h b k (omega arith))))

-- a test that implies another counts no more, whatever is there
pub count-mono : (t u : Float → Bool) (held : ℕ → Option Float) (n : ℕ) → ((x : Float) → T (t x) → T (u x)) → count_of t held n ≤ count_of u held n
count-mono t u held n h = count-more t u held n (λ b x k e. h x)

-- ---- the first that passes
module _ (t : Float → Bool) (held : ℕ → Option Float) where
  -- one cell more
  pub first_next : (n : ℕ) → first_that t held (n + 1) ≡ or_next t (first_that t held n) (held n)
  unfolding first_that
  first_next n = ap (first_that t held) (add-one n)

  -- of a loop's turn that has found none so far: a cell that is missing, one that fails, and the first that passes
  pub first-missing : (n : ℕ) → first_that t held n ≡ none → held n ≡ none → first_that t held (n + 1) ≡ none
  first-missing n e c = first_next n ∙ ap₂ (or_next t) e c

  pub first-fails : (n : ℕ) (x : Float) → first_that t held n ≡ none → held n ≡ some x → t x ≡ false → first_that t held (n + 1) ≡ none
  first-fails n x e c f = first_next n ∙ ap₂ (or_next t) e c ∙ not_chosen (some x) none f

  pub first-not : (n : ℕ) → first_that t held n ≡ none → passes t (held n) ≡ false → first_that t held (n + 1) ≡ none
  first-not n e f = by (held n) refl f
    where
      by : (cell : Option Float) → held n ≡ cell → passes t cell ≡ false → first_that t held (n + 1) ≡ none
      by none c g = first-missing n e c
      by (some x) c g = first-fails n x e c g

  pub first-here : (n : ℕ) (x : Float) → first_that t held n ≡ none → held n ≡ some x → t x ≡ true → first_that t held (n + 1) ≡ some x
  first-here n x e c p = first_next n ∙ ap₂ (or_next t) e c ∙ chosen (some x) none p

  -- what is found stays
  first-stays : (m r : ℕ) (x : Float) → first_that t held m ≡ some x → first_that t held (m + r) ≡ some x
  unfolding first_that
  first-stays m zero x e = let z : m + 0 ≡ m = omega arith in ap (first_that t held) z ∙ e
  first-stays m (suc r) x e =
      let z : m + suc r ≡ suc (m + r) = omega arith in
      ap (first_that t held) z ∙ ap (λ (o : Option Float). or_next t o (held (m + r))) (first-stays m r x e)

  pub first-kept : (m n : ℕ) (x : Float) → m ≤ n → first_that t held m ≡ some x → first_that t held n ≡ some x
  first-kept m n x h e = let z : m + (n - m) ≡ n = omega arith in sym (ap (first_that t held) z) ∙ first-stays m (n - m) x e

pub some_inj : {x y : Float} → some x ≡ some y → x ≡ y
some_inj e = cc

-- x is one of the first n that are there, and passes
pub record FoundAt (t : Float → Bool) (held : ℕ → Option Float) (n : ℕ) (x : Float) : Type 0 where
  pub place : ℕ
  pub within : place < n
  pub there : held place ≡ some x
  pub passing : t x ≡ true

-- what was found with one cell more was found before, or is the cell; and where nothing was, nothing was before, and the cell does not pass
or_next-found : (t : Float → Bool) (before cell : Option Float) (x : Float) → or_next t before cell ≡ some x
    → (before ≡ some x) ⊎ ((cell ≡ some x) × (t x ≡ true))
or_next-found t (some y) cell x e = inl e
or_next-found t none none x e = absurd (none-ne-some _ e)
or_next-found t none (some y) x e = by (t y) refl e
  where
    by : (a : Bool) → t y ≡ a → choose a (some y) none ≡ some x → (none ≡ some x) ⊎ ((some y ≡ some x) × (t x ≡ true))
    by true p q = inr (q, subst (λ (z : Float). t z ≡ true) (some_inj q) p)
    by false p q = absurd (none-ne-some _ q)

or_next-none : (t : Float → Bool) (before cell : Option Float) (x : Float) → or_next t before cell ≡ none
    → (before ≡ none) × (cell ≡ some x → t x ≡ false)
or_next-none t (some y) cell x e = absurd (none-ne-some _ (sym e))
or_next-none t none none x e = (refl, λ c. absurd (none-ne-some _ c))
or_next-none t none (some y) x e = (refl, λ c. subst (λ (z : Float). t z ≡ false) (some_inj c) (by (t y) e))
  where
    by : (a : Bool) → choose a (some y) none ≡ none → a ≡ false
    by true q = absurd (none-ne-some _ (sym q))
    by false q = refl

-- what is found is there and passes
pub first-is : (t : Float → Bool) (held : ℕ → Option Float) (n : ℕ) (x : Float) → first_that t held n ≡ some x → FoundAt t held n x
unfolding first_that
first-is t held zero x e = absurd (none-ne-some _ e)
first-is t held (suc n) x e = elim (or_next-found t (first_that t held n) (held n) x e) [
  | inl h ↦
      let before = first-is t held n x h in
      record { place = before.place; within = omega arith; there = before.there; passing = before.passing }
  | inr h ↦ record { place = n; within = omega arith; there = h.0; passing = h.1 }
]

-- where none is found, none that is there passes
pub first-none : (t : Float → Bool) (held : ℕ → Option Float) (n : ℕ) → first_that t held n ≡ none
    → (b : ℕ) (x : Float) → b < n → held b ≡ some x → t x ≡ false
unfolding first_that
first-none t held zero e b x h c = absurd (omega arith)
first-none t held (suc n) e b x h c =
    let last = or_next-none t (first_that t held n) (held n) x e in
    ⊎_elim (λ (z : b ≡ n). last.1 (sym (ap held z) ∙ c)) (λ (l : b < n). first-none t held n last.0 b x l c) (eq-or-lt_of_le (le_of_suc-le-suc h))

-- ---- equal cells
module _ (held other : ℕ → Option Float) where
  pub count_same : (t : Float → Bool) (n : ℕ) → Same held other n → count_of t held n ≡ count_of t other n
  unfolding count_of
  count_same t zero e = refl
  count_same t (suc n) e =
      ap₂ (λ (c : ℕ) (cell : Option Float). c + once (passes t cell)) (count_same t n (λ b h. e b (omega arith))) (e n (omega arith))

  pub first-same : (t : Float → Bool) (n : ℕ) → Same held other n → first_that t held n ≡ first_that t other n
  unfolding first_that
  first-same t zero e = refl
  first-same t (suc n) e = ap₂ (or_next t) (first-same t n (λ b h. e b (omega arith))) (e n (omega arith))

  pub ranks-same : (n k : ℕ) (x : Float) → Same held other n → ranks held n k x ≡ ranks other n k x
  unfolding ranks
  ranks-same n k x e =
      ap₂ (λ (below above : ℕ). leb below k && ltb k above) (count_same (λ y. lt y x) n e) (count_same (λ y. le y x) n e)

  pub rank_same : (n k : ℕ) → Same held other n → of_rank held n k ≡ of_rank other n k
  unfolding of_rank
  rank_same n k e =
      let tests : ranks held n k ≡ ranks other n k = fun_ext (λ x. ranks-same n k x e) in
      ap (λ (t : Float → Bool). or_zero (first_that t held n)) tests ∙ ap or_zero (first-same (ranks other n k) n e)

-- ---- ranks
-- the test and what it says
pub ranks-is : (held : ℕ → Option Float) (n k : ℕ) (x : Float)
    → ranks held n k x ≡ true → (count_of (λ y. lt y x) held n ≤ k) × (k < count_of (λ y. le y x) held n)
unfolding ranks
ranks-is held n k x e =
    let below = leb (count_of (λ y. lt y x) held n) k in
    let above = ltb k (count_of (λ y. le y x) held n) in
    let t : T (below && above) = subst T (sym e) tt in
    (leb→le _ _ (and_l below above t), ltb→lt _ _ (and_r below above t))

pub ranks-holds : (held : ℕ → Option Float) (n k : ℕ) (x : Float)
    → count_of (λ y. lt y x) held n ≤ k → k < count_of (λ y. le y x) held n → ranks held n k x ≡ true
unfolding ranks
ranks-holds held n k x h l = ap₂ ◌&&◌ (le-leb _ _ h) (lt-ltb _ _ l)

-- how a function that looks for the value of rank k ends: at the first that has it, or with none
module _ (held : ℕ → Option Float) (n k : ℕ) where
  pub rank-here : (b : ℕ) (x : Float) → b < n → first_that (ranks held n k) held b ≡ none → held b ≡ some x → ranks held n k x ≡ true
      → of_rank held n k ≡ x
  unfolding of_rank
  rank-here b x h e c p =
      ap or_zero (first-kept (ranks held n k) held (b + 1) n x (omega arith) (first-here (ranks held n k) held b x e c p))

  pub rank-none : first_that (ranks held n k) held n ≡ none → of_rank held n k ≡ plus_zero
  unfolding of_rank
  rank-none e = ap or_zero e
