-- Which of several values of the middle rank is taken does not matter: of two that are equal the same level is made, though one be -0.0 and the
-- other 0.0. Assumes nothing.
use Prim.Native.Nat.{ℕ, ◌-◌, ◌/◌, ◌<◌}
use mathlib.Core.Bool.{Bool, true, false, not, cond}
use mathlib.Core.Option.{some}
use mathlib.Core.Path.{◌≡◌, refl, sym, ap, subst, ◌∙◌}
use native.Mathlib.Omega.{arith}
use borrow.Author.Tests.{le-ltb}
use lib.Dec.{T, ltb, T_not, not_T}
use lib.IntN.{pos, negsuc}
use lib.Ieee.{Float, fin, nan, inf, binary32, of_bits, sub, div, lt, le, eq, fits}
use lib.Ieee.Bits.{is_true}
use lib.Ieee.Fits.{div-fits}
use Rattle.util.specs.Choose.{choose}
use Rattle.util.specs.Refusal.{accepted}
use Rattle.util.proofs.Choose.{not_chosen}
use Rattle.ieee.specs.Whole.{plus_zero, is_zero}
use Rattle.ieee.specs.Within.{Within}
use Rattle.ieee.proofs.Order.{cross→le, le_trans, eq→le, le-lt}
use Rattle.ieee.proofs.Values.{equal}
use Rattle.ieee.proofs.Intervals.{point, sub_in, div-in, widen}
use Rattle.root.specs.Root.{root_of}
use Rattle.level.specs.Row.{ratio_of}
use Rattle.level.specs.Rank.{there_of, of_rank, OfRank}
use Rattle.level.specs.Level.{one, three, ln2, level_from, level_of}
use Rattle.level.proofs.Found.{one_value}
use Rattle.level.proofs.Five.{there-only}
use Rattle.noise.specs.Local.{Burst, read_of, ratios, tone, held}
use Rattle.noise.specs.Entry.{Asked, noise_answer}
use Rattle.noise.proofs.Accepted.{Accepted, accepted-all}
use Rattle.noise.proofs.Least.{quarter, held_in, no_nan, read-most, all-but-five, median-errors-in, sound}

-- ---- either zero
-- less a quarter or more, a median of 0 is below 1: the level is 1
zero-level : (x less : Float) → Within plus_zero plus_zero x → Within quarter three less → level_from x less ≡ one
unfolding level_from ln2 of_bits lt le sub div
zero-level x less X L =
    let own = sub binary32 (div binary32 x ln2) less in
    let mean : Within plus_zero plus_zero (div binary32 x ln2) = div-in binary32 plus_zero plus_zero X (point ln2 tt) tt in
    let under : Within (fin true 3 (pos 0)) (fin true 1 (negsuc 1)) own = sub_in binary32 (fin true 3 (pos 0)) (fin true 1 (negsuc 1)) mean L tt in
    ap (λ (t : Bool). cond t one own) (is_true (lt own one) (le-lt own (fin true 1 (negsuc 1)) one under.to tt))

both-zeros : Within plus_zero plus_zero (fin true 0 (pos 0)) × Within plus_zero plus_zero plus_zero
unfolding le
both-zeros = (record { from = tt; to = tt }, record { from = tt; to = tt })

pub zeros-alike : (less : Float) → Within quarter three less → level_from (fin true 0 (pos 0)) less ≡ level_from plus_zero less
zeros-alike less L = zero-level (fin true 0 (pos 0)) less both-zeros.0 L ∙ sym (zero-level plus_zero less both-zeros.1 L)

-- ---- two equal values
-- -0.0 is not above 0.0
minus-below : (x : Float) → T (is_zero true x) → T (le x plus_zero)
minus-below nan h = absurd h
minus-below (inf s) h = absurd h
minus-below (fin false m e) h = absurd h
minus-below (fin true m e) h = cross→le (fin true m e) plus_zero tt tt (omega arith)

not-minus : (x : Float) → T (not (le x plus_zero)) → T (not (is_zero true x))
not-minus x n = not_T (is_zero true x) (λ z. T_not (le x plus_zero) n (minus-below x z))

-- both are 0, or they are one value
same-level : (x y less : Float) → T (fits binary32 x) → T (fits binary32 y) → T (le plus_zero x) → T (le plus_zero y) → T (eq x y) → T (eq y x)
    → Within quarter three less → level_from x less ≡ level_from y less
same-level x y less p q X Y e f L = by (le x plus_zero) refl
  where
    by : (t : Bool) → le x plus_zero ≡ t → level_from x less ≡ level_from y less
    by true z =
        let low : T (le x plus_zero) = subst T (sym z) tt in
        zero-level x less (record { from = X; to = low }) L
        ∙ sym (zero-level y less (record { from = Y; to = le_trans y x plus_zero (eq→le y x f) low }) L)
    by false z =
        let high : T (not (le x plus_zero)) = subst (λ (t : Bool). T (not t)) (sym z) tt in
        let also : T (not (le y plus_zero)) =
        not_T (le y plus_zero) (λ u. T_not (le x plus_zero) high (le_trans x y plus_zero (eq→le x y e) u)) in
        ap (λ (v : Float). level_from v less) (equal binary32 x y p q (not-minus x high) (not-minus y also) e)

-- ---- of a row
-- what is held is f32
held_fits : (a : Burst) (i b : ℕ) (x : Float) → held a i b ≡ some x → T (fits binary32 x)
unfolding held ratio_of
held_fits a i b x c = subst (λ (y : Float). T (fits binary32 y)) (sym (there-only (ratios a i) (tone a i) b x c).0) (div-fits binary32 _ _)

of_row : (a : Asked) (lent : ℕ) → Accepted a lent → (i k : ℕ) (x y less : Float) → i < a.heard.rows
    → OfRank (held a.heard i) (read_of a.heard) k x → OfRank (held a.heard i) (read_of a.heard) k y
    → Within quarter three less → level_from x less ≡ level_from y less
of_row a lent ok i k x y less h r s L =
    let b = a.heard in
    let n = read_of b in
    let most-read = (read-most b).1 in
    let sure = no_nan a lent ok i n h most-read in
    same-level x y less (held_fits b i r.place x r.there) (held_fits b i s.place y s.there)
    (held_in a lent ok i r.place x h (omega (arith, r.within, most-read)) r.there).from
    (held_in a lent ok i s.place y h (omega (arith, s.within, most-read)) s.there).from
    (one_value (held b i) n k x y sure r s) (one_value (held b i) n k y x sure s r) L

-- two values of one rank make the same level
pub either : (a : Asked) (lent : ℕ) → noise_answer a lent ≡ accepted tt → (i k : ℕ) (x y less : Float) → i < a.heard.rows
    → OfRank (held a.heard i) (read_of a.heard) k x → OfRank (held a.heard i) (read_of a.heard) k y
    → Within quarter three less → level_from x less ≡ level_from y less
either a lent e = of_row a lent (accepted-all a lent e)

-- so a row's level is that of any value of its middle rank
pub level-of-any : (a : Asked) (lent : ℕ) → noise_answer a lent ≡ accepted tt → (i : ℕ) (x : Float) → i < a.heard.rows
    → OfRank (held a.heard i) (read_of a.heard) ((read_of a.heard - 5) / 2) x
    → level_of (held a.heard i) (read_of a.heard) ≡ level_from x (div binary32 three (root_of (read_of a.heard - 5)))
unfolding level_of le
level-of-any a lent e i x h r =
    let b = a.heard in
    let n = read_of b in
    let m = n - 5 in
    let read = read-most b in
    let count : there_of (held b i) n ≡ m = omega (arith, all-but-five b i) in
    let less = div binary32 three (root_of m) in
    let row = sound a lent e i h in
    let errors : Within quarter three less = widen quarter three (median-errors-in m (omega arith) (omega arith)) tt in
    ap (λ (c : ℕ). choose (ltb c 8) one (level_from (of_rank (held b i) n (c / 2)) (div binary32 three (root_of c)))) count
    ∙ not_chosen one (level_from (of_rank (held b i) n (m / 2)) less) (le-ltb m 8 (omega arith))
    ∙ either a lent e i (m / 2) (of_rank (held b i) n (m / 2)) x less h row.median r errors
