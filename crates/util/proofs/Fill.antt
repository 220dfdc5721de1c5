-- A list filled one store or one row a turn is the list by its places. Assumes nothing.
use Rattle.std.proofs.Common.{◌≡◌, ℕ, zero, suc, ◌+◌, ◌-◌, ◌*◌, ◌<◌, ◌≤◌, ◌⊎◌, List, ◌∷◌, length, get_or, set, replicate, sym, refl, ap, ◌∙◌, subst, ap₂, inl, inr, ⊎_elim, not-suc-le-zero, add-zero, mod-eq_of_lt, eq-zero-or-pos, eq-or-lt_of_le, ne_of_gt, ne_of_lt, arith, length-set, get_or-set_other, get_or-set_same, ext_get_or, below_more}
use native.Mathlib.Nat.{mul-add-div, mul-add-mod_self_left, div-eq_of_lt}
use lib.ListN.{length-replicate, get_or-replicate}
use Rattle.util.specs.Table.{tabled, rows, Stored}

pub below_or_not : (s n : ℕ) → (s < n) ⊎ (n ≤ s)
below_or_not s n = ⊎_elim (λ e. inr (omega arith)) (λ p. inl (omega arith)) (eq-zero-or-pos (n - s))

-- what holds below i, and at i, holds below i + 1
pub up_done : {A : Type 0} (l : List A) (i : ℕ) (v d : A) (g : ℕ → A) → i < length l → v ≡ g i → ((k : ℕ) → k < i → get_or l k d ≡ g k)
    → (k : ℕ) → k < i + 1 → get_or (set l i v) k d ≡ g k
up_done l i v d g inside e rest =
    below_more (λ (k : ℕ). get_or (set l i v) k d ≡ g k) i
    (λ k h. get_or-set_other l i k v d (ne_of_lt h) ∙ rest k h)
    (get_or-set_same l i v d inside ∙ e)

module _ {A : Type 0} (l : List A) (i : ℕ) (v d : A) where
  -- downwards: what holds from i + 1 on, and at i, holds from i on
  pub down-done : (g : ℕ → A) (hi : ℕ) → i < length l → v ≡ g i → ((s : ℕ) → i + 1 ≤ s → s < hi → get_or l s d ≡ g s)
      → (s : ℕ) → i ≤ s → s < hi → get_or (set l i v) s d ≡ g s
  down-done g hi inside e rest s h below =
      ⊎_elim
      (λ q. subst (λ (j : ℕ). get_or (set l i v) j d ≡ g j) q (get_or-set_same l i v d inside ∙ e))
      (λ q. get_or-set_other l i s v d (ne_of_gt q) ∙ rest s (omega arith) below)
      (eq-or-lt_of_le h)

  pub down-kept : (old : List A) → ((s : ℕ) → s < i + 1 → get_or l s d ≡ get_or old s d) → (s : ℕ) → s < i → get_or (set l i v) s d ≡ get_or old s d
  down-kept old rest s h = get_or-set_other l i s v d (ne_of_lt h) ∙ rest s (omega arith)

-- a list whose places all hold a is a repeated
pub filled : {A : Type 0} (l : List A) (n : ℕ) (a d : A) → length l ≡ n → ((k : ℕ) → k < n → get_or l k d ≡ a) → l ≡ replicate n a
filled l n a d e h =
    ext_get_or d l (replicate n a) (e ∙ sym (length-replicate n a)) (λ i k. let k' : i < n = omega arith in h i k' ∙ sym (get_or-replicate n i a d k'))

pub tabled-length : {A : Type 0} (n : ℕ) (f : ℕ → A) → length (tabled n f) ≡ n
unfolding tabled
tabled-length zero f = refl
tabled-length (suc n) f = ap suc (tabled-length n (λ i. f (suc i)))

pub tabled-at : {A : Type 0} (n i : ℕ) (f : ℕ → A) (d : A) → i < n → get_or (tabled n f) i d ≡ f i
unfolding tabled
tabled-at zero i f d h = absurd (not-suc-le-zero h)
tabled-at (suc n) zero f d h = refl
tabled-at (suc n) (suc i) f d h = tabled-at n i (λ k. f (suc k)) d (omega arith)

-- no other list is so
pub tabled-only : {A : Type 0} (n : ℕ) (f : ℕ → A) (d : A) (l : List A) → length l ≡ n → ((i : ℕ) → i < n → get_or l i d ≡ f i) → l ≡ tabled n f
tabled-only n f d l e at =
    ext_get_or d l (tabled n f) (e ∙ sym (tabled-length n f)) (λ i h. let k : i < n = omega arith in at i k ∙ sym (tabled-at n i f d k))

pub tabled-same : {A : Type 0} (n : ℕ) (f g : ℕ → A) → ((i : ℕ) → i < n → f i ≡ g i) → tabled n f ≡ tabled n g
unfolding tabled
tabled-same zero f g e = refl
tabled-same (suc n) f g e = ap₂ ◌∷◌ (e 0 (omega arith)) (tabled-same n (λ i. f (suc i)) (λ i. g (suc i)) (λ i h. e (suc i) (omega arith)))

-- ---- rows
-- a row begun, and a store more of it
pub row-begun : {A : Type 0} (d : A) (base : ℕ) (row : ℕ → A) (l : List A) → Stored d 0 base row l l
row-begun d base row l = record { size = refl; done = λ k h. absurd (not-suc-le-zero h); kept = λ k h. refl }

pub row_more : {A : Type 0} (d : A) (w base : ℕ) (row : ℕ → A) (was l : List A) (v : A) → Stored d w base row was l → base + w < length was → v ≡ row w
    → Stored d (w + 1) base row was (set l (base + w) v)
row_more d w base row was l v s h e =
    record {
      size = length-set l (base + w) v ∙ s.size;
      done = below_more (λ (k : ℕ). get_or (set l (base + w) v) (base + k) d ≡ row k) w
          (λ k p. let q : base + k < base + w = omega arith in get_or-set_other l (base + w) (base + k) v d (ne_of_lt q) ∙ s.done k p)
          (get_or-set_same l (base + w) v d (omega (arith, s.size)) ∙ e);
      kept = λ k p. let q : k < base + w = omega arith in get_or-set_other l (base + w) k v d (ne_of_lt q) ∙ s.kept k p;
    }

-- the rows below i, and row i, are the rows below i + 1
pub rows_more : {A : Type 0} (d : A) (w i : ℕ) (g : ℕ → A) (row : ℕ → A) (was l : List A) → Stored d w (w * i) row was l
    → ((k : ℕ) → k < w → row k ≡ g (w * i + k)) → ((k : ℕ) → k < w * i → get_or was k d ≡ g k) → (k : ℕ) → k < w * (i + 1) → get_or l k d ≡ g k
rows_more d w i g row was l s e rest k h =
    ⊎_elim
    (λ low. s.kept k low ∙ rest k low)
    (λ high.
    let j : w * i + (k - w * i) ≡ k = omega arith in
    let p : k - w * i < w = omega arith in
    ap (λ (x : ℕ). get_or l x d) (sym j) ∙ s.done (k - w * i) p ∙ e (k - w * i) p ∙ ap g j)
    (below_or_not k (w * i))

pub rows_at : {A : Type 0} (w i k : ℕ) (f : ℕ → ℕ → A) → k < w → rows w f (w * i + k) ≡ f i k
unfolding rows
rows_at w i k f h = ap₂ f
    (mul-add-div (omega arith) i k ∙ ap (λ (x : ℕ). i + x) (div-eq_of_lt h) ∙ add-zero i)
    (mul-add-mod_self_left w i k ∙ mod-eq_of_lt h)
