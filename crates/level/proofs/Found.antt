-- There is a value of rank k wherever k is below the number of those that are there, `of_rank` finds one, and any two are equal; provided that no NaN
-- is there, of which no order is known. Assumes nothing.
use Prim.Native.Nat.{ℕ, zero, suc, ◌+◌, ◌-◌, ◌≤◌, ◌<◌}
use mathlib.Core.Bool.{Bool, true, false, not, true≢false}
use mathlib.Core.Option.{Option, none, some}
use mathlib.Core.Path.{◌≡◌, refl, sym, ap, subst, ◌∙◌}
use native.Mathlib.Numerals.{add-one}
use native.Mathlib.Omega.{arith}
use lib.Dec.{T, T_not, not_T}
use lib.Ieee.{Float, lt, le, eq, is_nan}
use lib.Ieee.Bits.{is_true}
use Rattle.ieee.proofs.Integers.{by-test}
use Rattle.ieee.proofs.Order.{le_refl, lt→le, not-lt→le, le→not-lt, le-le→eq, le-lt, lt-le}
use Rattle.level.specs.Rank.{count_of, there_of, ranks, first_that, or_zero, of_rank, OfRank}
use Rattle.level.proofs.Counting.{count-mono, count-there, count-missing, count-fails, count-passes, count-by-one, count-grows}
use Rattle.level.proofs.Counting.{first-is, first-none, ranks-is, ranks-holds}

-- no value that is there among the first n is a NaN
abbrev pub NoNan : (ℕ → Option Float) → ℕ → Type 0
NoNan held n = (b : ℕ) (x : Float) → b < n → held b ≡ some x → T (not (is_nan x))

-- ---- what a test's answer is, from what it would say
is_false : (t : Bool) → (T t → ⊥) → t ≡ false
is_false true h = absurd (h tt)
is_false false h = refl

-- ---- counts of lesser and of greater values
-- what lies below x lies below v, where x is below v; what is not above v lies below x, where v is below x
below-below : (held : ℕ → Option Float) (n : ℕ) (x v : Float) → T (lt x v) → count_of (λ y. lt y x) held n ≤ count_of (λ y. lt y v) held n
below-below held n x v h = count-mono (λ y. lt y x) (λ y. lt y v) held n (λ y p. lt-le y x v p (lt→le x v h))

above-below : (held : ℕ → Option Float) (n : ℕ) (v x : Float) → T (lt v x) → count_of (λ y. le y v) held n ≤ count_of (λ y. lt y x) held n
above-below held n v x h = count-mono (λ y. le y v) (λ y. lt y x) held n (λ y p. le-lt y v x p h)

below-above : (held : ℕ → Option Float) (n : ℕ) (x : Float) → count_of (λ y. lt y x) held n ≤ count_of (λ y. le y x) held n
below-above held n x = count-mono (λ y. lt y x) (λ y. le y x) held n (λ y p. lt→le y x p)

-- ---- there is one
pub record Ranked (held : ℕ → Option Float) (n k : ℕ) : Type 0 where
  pub value : Float
  pub of-rank : OfRank held n k value

-- One cell more, x. If at most k of those before lie below x and k or more of them do not lie above it, x is of rank k. If more than k of them lie
-- below x, the one that was of rank k before still is: x is not below it. If fewer than k of them do not lie above x, the one that was of rank
-- k - 1 before is: x is not above it.
module _ (held : ℕ → Option Float) (n : ℕ) (x : Float) (c : held n ≡ some x) (ok : T (not (is_nan x))) (others : NoNan held n) where
  own : (k : ℕ) → count_of (λ y. lt y x) held n ≤ k → k ≤ count_of (λ y. le y x) held n → OfRank held (n + 1) k x
  own k h l =
      let itself : T (le x x) = le_refl x ok in
      record {
        place = n;
        within = omega arith;
        there = c;
        below = omega (arith, count-fails (λ y. lt y x) held n x c (is_false (lt x x) (T_not (lt x x) (le→not-lt x x itself))));
        not-above = omega (arith, count-passes (λ y. le y x) held n x c (is_true (le x x) itself));
      }

  lower : (k : ℕ) (v : Float) → k < count_of (λ y. lt y x) held n → OfRank held n k v → OfRank held (n + 1) k v
  lower k v h r =
      record {
        place = r.place;
        within = omega arith;
        there = r.there;
        below = omega (arith, count-fails (λ y. lt y v) held n x c (is_false (lt x v) (λ t. omega (arith, below-below held n x v t))));
        not-above = omega (arith, count-grows (λ y. le y v) held n);
      }

  upper : (k : ℕ) (v : Float) → count_of (λ y. le y x) held n ≤ k → OfRank held n k v → OfRank held (n + 1) (k + 1) v
  upper k v h r =
      let not-below = not_T (lt v x) (λ t. omega (arith, above-below held n v x t, below-above held n x)) in
      let over : T (le x v) = not-lt→le v x (others r.place v r.within r.there) ok not-below in
      record {
        place = r.place;
        within = omega arith;
        there = r.there;
        below = omega (arith, count-by-one (λ y. lt y v) held n);
        not-above = omega (arith, count-passes (λ y. le y v) held n x c (is_true (le x v) over));
      }

  one_more : (k : ℕ) → k < there_of held (n + 1) → ((j : ℕ) → j < there_of held n → Ranked held n j) → Ranked held (n + 1) k
  one_more k h before =
      let all : there_of held (n + 1) ≡ there_of held n + 1 = count-passes (λ y. true) held n x c refl in
      by-test k (count_of (λ y. lt y x) held n)
      (λ l.
      let was = before k (omega (arith, count-there (λ y. lt y x) held n)) in
      record { value = was.value; of-rank = lower k was.value l was.of-rank })
      (λ l.
      by-test (count_of (λ y. le y x) held n) k
      (λ m.
      let was = before (k - 1) (omega arith) in
      let up : k - 1 + 1 ≡ k = omega arith in
      record {
        value = was.value;
        of-rank = subst (λ (j : ℕ). OfRank held (n + 1) j was.value) up (upper (k - 1) was.value (omega arith) was.of-rank);
      })
      (λ m. record { value = x; of-rank = own k l m }))

-- a missing cell changes nothing
missing : (held : ℕ → Option Float) (n k : ℕ) → held n ≡ none → Ranked held n k → Ranked held (n + 1) k
missing held n k c r =
    let v = r.value in
    let was = r.of-rank in
    record {
      value = v;
      of-rank =
          record {
            place = was.place;
            within = omega (arith, was.within);
            there = was.there;
            below = omega (arith, was.below, count-missing (λ y. lt y v) held n c);
            not-above = omega (arith, was.not-above, count-missing (λ y. le y v) held n c);
          };
    }

next : (held : ℕ → Option Float) (n k : ℕ) → NoNan held (n + 1) → k < there_of held (n + 1) → ((j : ℕ) → j < there_of held n → Ranked held n j)
    → Ranked held (n + 1) k
next held n k ok h before = by (held n) refl
  where
    by : (cell : Option Float) → held n ≡ cell → Ranked held (n + 1) k
    by none c = missing held n k c (before k (omega (arith, count-missing (λ y. true) held n c)))
    by (some x) c = one_more held n x c (ok n x (omega arith) c) (λ b y l. ok b y (omega arith)) k h before

pub some-ranked : (held : ℕ → Option Float) (n k : ℕ) → NoNan held n → k < there_of held n → Ranked held n k
unfolding count_of
some-ranked held zero k ok h = absurd (omega arith)
some-ranked held (suc n) k ok h =
    let e : n + 1 ≡ suc n = add-one n in
    subst (λ (m : ℕ). Ranked held m k) e
    (next held n k (λ b x l. ok b x (omega arith)) (omega (arith, ap (there_of held) e)) (λ j l. some-ranked held n j (λ b x m. ok b x (omega arith)) l))

-- ---- `of_rank` is one
pub found : (held : ℕ → Option Float) (n k : ℕ) → NoNan held n → k < there_of held n → OfRank held n k (of_rank held n k)
unfolding of_rank
found held n k ok h = by (first_that (ranks held n k) held n) refl
  where
    by : (o : Option Float) → first_that (ranks held n k) held n ≡ o → OfRank held n k (or_zero (first_that (ranks held n k) held n))
    by none e =
        let one = some-ranked held n k ok h in
        let r = one.of-rank in
        let fails = first-none (ranks held n k) held n e r.place one.value r.within r.there in
        absurd (true≢false (sym (ranks-holds held n k one.value r.below r.not-above) ∙ fails))
    by (some x) e =
        let at = first-is (ranks held n k) held n x e in
        let says = ranks-is held n k x at.passing in
        subst (λ (y : Float). OfRank held n k y) (sym (ap or_zero e))
        (record { place = at.place; within = at.within; there = at.there; below = says.0; not-above = says.1 })

-- ---- any two are equal
not-under : (held : ℕ → Option Float) (n k : ℕ) (x y : Float) → NoNan held n → OfRank held n k x → OfRank held n k y → T (le y x)
not-under held n k x y ok r s =
    not-lt→le x y (ok r.place x r.within r.there) (ok s.place y s.within s.there)
    (not_T (lt x y) (λ t. omega (arith, above-below held n x y t)))

pub one_value : (held : ℕ → Option Float) (n k : ℕ) (x y : Float) → NoNan held n → OfRank held n k x → OfRank held n k y → T (eq x y)
one_value held n k x y ok r s = le-le→eq x y (not-under held n k y x ok s r) (not-under held n k x y ok r s)
