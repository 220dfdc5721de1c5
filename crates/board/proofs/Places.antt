-- A board's places: how its bytes are cut, put together, and what one place replaced or inserted makes of them. Assumes nothing.
use Prim.Native.Nat.{ℕ, zero, suc, ◌+◌, ◌-◌, ◌*◌, ◌≤◌, ◌<◌}
use mathlib.Core.List.{List, [], ◌∷◌, ◌++◌}
use mathlib.Core.Path.{◌≡◌, refl, sym, ap, ap₂, ◌∙◌}
use native.Mathlib.Nat.{zero-add, suc-add}
use native.Mathlib.Omega.{arith}
use lib.ListN.{length, get_or, set, take, drop, length-append, length-drop, take-append-drop}
use lib.Seq.{length-take-le, take_all, take-append-le, drop-append-le, take_at, drop_at, drop-drop, set_split}
use Rattle.board.specs.Places.{places, place_at}
use Rattle.board.specs.Putting.{replaced, inserted}

pub length-places : (n : ℕ) (b : List ℕ) → length (places n b) ≡ n
unfolding places
length-places zero b = refl
length-places (suc n) b = ap suc (length-places n (drop 44 b))

pub nth-place : (n i : ℕ) (b : List ℕ) → i < n → get_or (places n b) i [] ≡ place_at b i
unfolding places
nth-place zero i b l = absurd (omega arith)
nth-place (suc n) zero b l = refl
nth-place (suc n) (suc i) b l =
    let further : 44 + 44 * i ≡ 44 * suc i = omega arith in
    nth-place n i (drop 44 b) (omega arith) ∙ ap (take 44) (drop-drop (44 * i) 44 b ∙ ap (λ (m : ℕ). drop m b) further)

-- as a part from its first byte to its last
pub part : (i : ℕ) (b : List ℕ) → take (44 * i + 44 - 44 * i) (drop (44 * i) b) ≡ place_at b i
part i b =
    let size : 44 * i + 44 - 44 * i ≡ 44 = omega arith in
    ap (λ (n : ℕ). take n (drop (44 * i) b)) size

-- the first n places, and those behind them
pub both : (n m : ℕ) (b : List ℕ) → places (n + m) b ≡ places n b ++ places m (drop (44 * n) b)
unfolding places
both zero m b = ap (λ (n : ℕ). places n b) (zero-add m)
both (suc n) m b =
    let further : 44 + 44 * n ≡ 44 * suc n = omega arith in
    ap (λ (k : ℕ). places k b) (suc-add n m)
    ∙ ap (λ (l : List (List ℕ)). take 44 b ∷ l)
    (both n m (drop 44 b)
    ∙ ap (λ (c : List ℕ). places n (drop 44 b) ++ places m c) (drop-drop (44 * n) 44 b ∙ ap (λ (i : ℕ). drop i b) further))

-- they are cut from their own bytes alone
pub own-bytes : (n : ℕ) (x y : List ℕ) → 44 * n ≤ length x → places n (x ++ y) ≡ places n x
unfolding places
own-bytes zero x y l = refl
own-bytes (suc n) x y l =
    ap₂ ◌∷◌ (take-append-le 44 x y (omega arith))
    (ap (places n) (drop-append-le 44 x y (omega arith)) ∙ own-bytes n (drop 44 x) y (omega (arith, length-drop 44 x)))

pub of-take : (n : ℕ) (b : List ℕ) → 44 * n ≤ length b → places n (take (44 * n) b) ≡ places n b
of-take n b l =
    sym (own-bytes n (take (44 * n) b) (drop (44 * n) b) (omega (arith, length-take-le (44 * n) b l)))
    ∙ ap (places n) (take-append-drop (44 * n) b)

-- n places and m behind them
joined : (n m : ℕ) (x y : List ℕ) → length x ≡ 44 * n → places (n + m) (x ++ y) ≡ places n x ++ places m y
joined n m x y e =
    both n m (x ++ y)
    ∙ ap₂ (λ (l : List (List ℕ)) (c : List ℕ). l ++ places m c) (own-bytes n x y (omega (arith, e))) (drop_at x y (44 * n) e)

-- a slip's bytes are one place
one : (s : List ℕ) → length s ≡ 44 → places 1 s ≡ s ∷ []
unfolding places
one s e = ap (λ (l : List ℕ). l ∷ []) (take_all 44 s (omega (arith, e)))

-- the list cut at a place
pub take_places : (p c : ℕ) (b : List ℕ) → p ≤ c → take p (places c b) ≡ places p b
take_places p c b l =
    let sum : c ≡ p + (c - p) = omega arith in
    ap (λ (n : ℕ). take p (places n b)) sum
    ∙ ap (take p) (both p (c - p) b)
    ∙ take_at (places p b) (places (c - p) (drop (44 * p) b)) p (length-places p b)

pub drop-places : (p c : ℕ) (b : List ℕ) → p ≤ c → drop p (places c b) ≡ places (c - p) (drop (44 * p) b)
drop-places p c b l =
    let sum : c ≡ p + (c - p) = omega arith in
    ap (λ (n : ℕ). drop p (places n b)) sum
    ∙ ap (drop p) (both p (c - p) b)
    ∙ drop_at (places p b) (places (c - p) (drop (44 * p) b)) p (length-places p b)

module _ (b s : List ℕ) (c p : ℕ) (room : 44 * c ≤ length b) (slip : length s ≡ 44) where
  -- one slip, the places before it as they were, and m more from what follows
  around : (m : ℕ) (y : List ℕ) → p ≤ c → places (p + (1 + m)) (take (44 * p) b ++ (s ++ y)) ≡ places p b ++ s ∷ places m y
  around m y l =
      let front : length (take (44 * p) b) ≡ 44 * p = length-take-le (44 * p) b (omega arith) in
      joined p (1 + m) (take (44 * p) b) (s ++ y) front
      ∙ ap₂ ◌++◌ (of-take p b (omega arith))
      (joined 1 m s y slip ∙ ap (λ (t : List (List ℕ)). t ++ places m y) (one s slip))

  pub places-replaced : p < c → places c (replaced b p s) ≡ set (places c b) p s
  places-replaced l =
      let sum : c ≡ p + (1 + (c - suc p)) = omega arith in
      ap (λ (n : ℕ). places n (replaced b p s)) sum
      ∙ around (c - suc p) (drop (44 * suc p) b) (omega arith)
      ∙ sym (set_split (places c b) p s (omega (arith, length-places c b))
      ∙ ap₂ (λ (front back : List (List ℕ)). front ++ s ∷ back) (take_places p c b (omega arith)) (drop-places (suc p) c b l))

  pub places-inserted : p ≤ c → places (suc c) (inserted b c p s) ≡ take p (places c b) ++ s ∷ drop p (places c b)
  places-inserted l =
      let sum : suc c ≡ p + (1 + (c - p)) = omega arith in
      let moved = take (44 * (c - p)) (drop (44 * p) b) in
      let rest : 44 * (c - p) ≤ length (drop (44 * p) b) = omega (arith, length-drop (44 * p) b) in
      ap (λ (n : ℕ). places n (inserted b c p s)) sum
      ∙ around (c - p) (moved ++ drop (44 * suc c) b) l
      ∙ ap (λ (back : List (List ℕ)). places p b ++ s ∷ back)
      (own-bytes (c - p) moved (drop (44 * suc c) b) (omega (arith, length-take-le (44 * (c - p)) (drop (44 * p) b) rest))
      ∙ of-take (c - p) (drop (44 * p) b) rest)
      ∙ sym (ap₂ (λ (front back : List (List ℕ)). front ++ s ∷ back) (take_places p c b l) (drop-places p c b l))

-- ---- the board keeps its length

pub length-replaced : (b s : List ℕ) (p : ℕ) → 44 * suc p ≤ length b → length s ≡ 44 → length (replaced b p s) ≡ length b
length-replaced b s p room slip =
    let front = length-take-le (44 * p) b (omega arith) in
    let back = length-drop (44 * suc p) b in
    length-append (take (44 * p) b) (s ++ drop (44 * suc p) b)
    ∙ ap (λ (n : ℕ). length (take (44 * p) b) + n) (length-append s (drop (44 * suc p) b))
    ∙ omega (arith, front, back, slip)

pub length_inserted : (b s : List ℕ) (c p : ℕ) → 44 * suc c ≤ length b → p ≤ c → length s ≡ 44 → length (inserted b c p s) ≡ length b
length_inserted b s c p room l slip =
    let moved = take (44 * (c - p)) (drop (44 * p) b) in
    let front = length-take-le (44 * p) b (omega arith) in
    let middle = length-take-le (44 * (c - p)) (drop (44 * p) b) (omega (arith, length-drop (44 * p) b)) in
    let back = length-drop (44 * suc c) b in
    length-append (take (44 * p) b) (s ++ (moved ++ drop (44 * suc c) b))
    ∙ ap (λ (n : ℕ). length (take (44 * p) b) + n)
    (length-append s (moved ++ drop (44 * suc c) b) ∙ ap (λ (n : ℕ). length s + n) (length-append moved (drop (44 * suc c) b)))
    ∙ omega (arith, front, middle, back, slip)
