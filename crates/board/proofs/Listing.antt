-- A slip put among slips whose segments rise, as lists: they rise on, only its own segment shows another slip, and there the one that
-- the rule leaves. Under any rule. Assumes nothing.
use Prim.Native.Nat.{ℕ, suc, ◌≤◌, ◌<◌}
use mathlib.Core.Bool.{Bool, true, false}
use mathlib.Core.List.{List, [], ◌∷◌, ◌++◌}
use mathlib.Core.Option.{Option, none, some}
use mathlib.Core.Path.{◌≡◌, refl, sym, ap, ap₂, subst, ◌∙◌}
use native.Mathlib.Nat.{le_refl}
use native.Mathlib.Omega.{arith}
use borrow.Author.Tests.{lt-ltb, le-ltb, eq-eqb, ne_eqb}
use lib.Dec.{eqb, ltb}
use lib.ListN.{get_or, set, take, drop}
use Rattle.util.specs.Choose.{choose}
use Rattle.util.proofs.Choose.{chosen, not_chosen}
use Rattle.slip.specs.Slips.{is_slip, taken}
use Rattle.board.specs.Places.{segment_of, rising, is_listed, before, shown}
use Rattle.board.specs.Rules.{Rule, judge}
use Rattle.board.specs.Series.{left}
use Rattle.board.proofs.Rising.{First, first, from_first, rising-from, shown-here, shown-further, none_below, is_some}
use Rattle.board.proofs.Rising.{listed-shown, listed_here, listed-further, unlisted-below}
use Rattle.board.proofs.Rising.{Lies, after, same, ahead, lies, before-after, before-first}

unfoldable pub put_in : Rule → List ℕ → List (List ℕ) → List (List ℕ)
put_in rule s [] = s ∷ []
put_in rule s (t ∷ ts) =
    choose (ltb (segment_of t) (segment_of s)) (t ∷ put_in rule s ts)
    (choose (eqb (segment_of t) (segment_of s)) (judge rule t s ∷ ts) (s ∷ t ∷ ts))

-- what becomes of a list at place p, where the slip's segment is listed there or not: judged, or put before those from p on
abbrev pub put_at : Rule → List ℕ → List (List ℕ) → ℕ → Bool → List (List ℕ)
put_at rule s ts p is-listed =
    choose is-listed (choose (rule (taken (get_or ts p [])) (taken s)) (set ts p s) ts) (take p ts ++ s ∷ drop p ts)

module _ (rule : Rule) (s : List ℕ) where
  -- what becomes of a list with a first slip
  put-after : (t : List ℕ) (ts : List (List ℕ)) → segment_of t < segment_of s → put_in rule s (t ∷ ts) ≡ t ∷ put_in rule s ts
  unfolding put_in
  put-after t ts l = chosen _ _ (lt-ltb (segment_of t) (segment_of s) l)

  put_same : (t : List ℕ) (ts : List (List ℕ)) → segment_of t ≡ segment_of s → put_in rule s (t ∷ ts) ≡ judge rule t s ∷ ts
  unfolding put_in
  put_same t ts e =
      not_chosen _ _ (le-ltb (segment_of t) (segment_of s) (omega (arith, e))) ∙ chosen _ _ (eq-eqb (segment_of t) (segment_of s) e)

  put-ahead : (t : List ℕ) (ts : List (List ℕ)) → segment_of s < segment_of t → put_in rule s (t ∷ ts) ≡ s ∷ t ∷ ts
  unfolding put_in
  put-ahead t ts l =
      not_chosen _ _ (le-ltb (segment_of t) (segment_of s) (omega arith))
      ∙ not_chosen _ _ (ne_eqb (segment_of t) (segment_of s) (λ q. absurd (omega (arith, q))))

  -- the slip that is left has the segment of both
  judged : (t : List ℕ) → segment_of t ≡ segment_of s → segment_of (judge rule t s) ≡ segment_of s
  judged t e = by (rule (taken t) (taken s))
    where
      by : (r : Bool) → segment_of (choose r s t) ≡ segment_of s
      by true = refl
      by false = e

  -- ---- they rise on

  pub rising-put : (k : ℕ) (ts : List (List ℕ)) → is_slip s ≡ true → k ≤ segment_of s → rising k ts ≡ true → rising k (put_in rule s ts) ≡ true
  unfolding put_in rising
  rising-put k [] g l e = from_first k s [] (record { slip = g; least = l; rest = refl })
  rising-put k (t ∷ ts) g l e = by (lies (segment_of s) t) (λ m. rising-put (suc (segment_of t)) ts g m (first k t ts e).rest)
    where
      f : First k t ts
      f = first k t ts e

      one_left : (r : Bool) → segment_of t ≡ segment_of s → rising k (choose r s t ∷ ts) ≡ true
      one_left true q =
          from_first k s ts (record { slip = g; least = l; rest = subst (λ (n : ℕ). rising (suc n) ts ≡ true) q f.rest })
      one_left false q = e

      by : Lies (segment_of s) t → (segment_of t < segment_of s → rising (suc (segment_of t)) (put_in rule s ts) ≡ true)
          → rising k (put_in rule s (t ∷ ts)) ≡ true
      by (after m) more =
          ap (rising k) (put-after t ts m)
          ∙ from_first k t (put_in rule s ts)
          (record { slip = f.slip; least = f.least; rest = more m })
      by (same q) more = ap (rising k) (put_same t ts q) ∙ one_left (rule (taken t) (taken s)) q
      by (ahead m) more =
          ap (rising k) (put-ahead t ts m)
          ∙ from_first k s (t ∷ ts)
          (record { slip = g; least = l; rest = rising-from (suc (segment_of s)) k t ts e m })

  -- ---- only its own segment shows another slip

  pub shown-own : (k : ℕ) (ts : List (List ℕ)) → rising k ts ≡ true
      → shown (segment_of s) (put_in rule s ts) ≡ left rule (shown (segment_of s) ts) (s ∷ [])
  unfolding put_in shown left
  shown-own k [] e = shown-here (segment_of s) s [] refl
  shown-own k (t ∷ ts) e = by (lies (segment_of s) t) (shown-own (suc (segment_of t)) ts (first k t ts e).rest)
    where
      f : First k t ts
      f = first k t ts e

      by : Lies (segment_of s) t → shown (segment_of s) (put_in rule s ts) ≡ left rule (shown (segment_of s) ts) (s ∷ [])
          → shown (segment_of s) (put_in rule s (t ∷ ts)) ≡ left rule (shown (segment_of s) (t ∷ ts)) (s ∷ [])
      by (after m) rest =
          ap (shown (segment_of s)) (put-after t ts m)
          ∙ shown-further (segment_of s) t (put_in rule s ts) (λ q. absurd (omega (arith, q)))
          ∙ rest
          ∙ ap (λ (o : Option (List ℕ)). left rule o (s ∷ [])) (sym (shown-further (segment_of s) t ts (λ q. absurd (omega (arith, q)))))
      by (same q) rest =
          ap (shown (segment_of s)) (put_same t ts q)
          ∙ shown-here (segment_of s) (judge rule t s) ts (judged t q)
          ∙ ap (λ (o : Option (List ℕ)). left rule o (s ∷ [])) (sym (shown-here (segment_of s) t ts q))
      by (ahead m) rest =
          let higher = rising-from (suc (segment_of s)) k t ts e m in
          ap (shown (segment_of s)) (put-ahead t ts m)
          ∙ shown-here (segment_of s) s (t ∷ ts) refl
          ∙ ap (λ (o : Option (List ℕ)). left rule o (s ∷ []))
          (sym (none_below (segment_of s) (suc (segment_of s)) (t ∷ ts) (le_refl (suc (segment_of s))) higher))

  pub shown-other : (h : ℕ) (ts : List (List ℕ)) → (segment_of s ≡ h → ⊥) → shown h (put_in rule s ts) ≡ shown h ts
  unfolding put_in shown
  shown-other h [] apart = shown-further h s [] apart
  shown-other h (t ∷ ts) apart = by (lies (segment_of s) t) (shown-other h ts apart)
    where
      by : Lies (segment_of s) t → shown h (put_in rule s ts) ≡ shown h ts → shown h (put_in rule s (t ∷ ts)) ≡ shown h (t ∷ ts)
      by (after m) rest =
          ap (shown h) (put-after t ts m)
          ∙ ap (λ (o : Option (List ℕ)). choose (eqb (segment_of t) h) (some t) o) rest
      by (same q) rest =
          ap (shown h) (put_same t ts q)
          ∙ shown-further h (judge rule t s) ts (λ p. apart (sym (judged t q) ∙ p))
          ∙ sym (shown-further h t ts (λ p. apart (sym q ∙ p)))
      by (ahead m) rest = ap (shown h) (put-ahead t ts m) ∙ shown-further h s (t ∷ ts) apart

  -- ---- so it is listed from then on, and every other as before

  shown-some : (o : Option (List ℕ)) → is_some (left rule o (s ∷ [])) ≡ true
  unfolding left
  shown-some none = refl
  shown-some (some l) = refl

  pub listed-own : (k : ℕ) (ts : List (List ℕ)) → rising k ts ≡ true → is_listed (segment_of s) (put_in rule s ts) ≡ true
  listed-own k ts e =
      listed-shown (segment_of s) (put_in rule s ts) ∙ ap is_some (shown-own k ts e) ∙ shown-some (shown (segment_of s) ts)

  pub listed-other : (h : ℕ) (ts : List (List ℕ)) → (segment_of s ≡ h → ⊥) → is_listed h (put_in rule s ts) ≡ is_listed h ts
  listed-other h ts apart =
      listed-shown h (put_in rule s ts) ∙ ap is_some (shown-other h ts apart) ∙ sym (listed-shown h ts)

  -- ---- and where it stands

  pub put-at : (k : ℕ) (ts : List (List ℕ)) → rising k ts ≡ true
      → put_at rule s ts (before (segment_of s) ts) (is_listed (segment_of s) ts) ≡ put_in rule s ts
  unfolding before is_listed put_in
  put-at k [] e = refl
  put-at k (t ∷ ts) e = by (lies (segment_of s) t) (put-at (suc (segment_of t)) ts (first k t ts e).rest)
    where
      -- the first stays where the place is behind it
      behind : (u r : Bool) (a b c : List (List ℕ)) → choose u (choose r (t ∷ a) (t ∷ b)) (t ∷ c) ≡ t ∷ choose u (choose r a b) c
      behind true true a b c = refl
      behind true false a b c = refl
      behind false r a b c = refl

      one_left : (r : Bool) → choose r (s ∷ ts) (t ∷ ts) ≡ choose r s t ∷ ts
      one_left true = refl
      one_left false = refl

      by : Lies (segment_of s) t → put_at rule s ts (before (segment_of s) ts) (is_listed (segment_of s) ts) ≡ put_in rule s ts
          → put_at rule s (t ∷ ts) (before (segment_of s) (t ∷ ts)) (is_listed (segment_of s) (t ∷ ts)) ≡ put_in rule s (t ∷ ts)
      by (after m) rest =
          let p = before (segment_of s) ts in
          ap₂ (put_at rule s (t ∷ ts)) (before-after (segment_of s) t ts m)
          (listed-further (segment_of s) t ts (λ q. absurd (omega (arith, q))))
          ∙ behind (is_listed (segment_of s) ts) (rule (taken (get_or ts p [])) (taken s)) (set ts p s) ts (take p ts ++ s ∷ drop p ts)
          ∙ ap (λ (l : List (List ℕ)). t ∷ l) rest
          ∙ sym (put-after t ts m)
      by (same q) rest =
          ap₂ (put_at rule s (t ∷ ts)) (before-first (segment_of s) t ts (omega (arith, q))) (listed_here (segment_of s) t ts q)
          ∙ one_left (rule (taken t) (taken s))
          ∙ sym (put_same t ts q)
      by (ahead m) rest =
          let higher = rising-from (suc (segment_of s)) k t ts e m in
          let none = unlisted-below (segment_of s) (suc (segment_of s)) (t ∷ ts) (le_refl (suc (segment_of s))) higher in
          ap₂ (put_at rule s (t ∷ ts)) (before-first (segment_of s) t ts (omega arith)) none ∙ sym (put-ahead t ts m)
