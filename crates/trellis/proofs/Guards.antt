-- No premise of the claims is empty: any whole numbers are terms, there are accepted terms, all of them are whole numbers of units, and on a small
-- code of the header's shape a closed word beats every other walk. And `NearExact` claims no less than it could: on a smaller one the word that is
-- out in the first pass has a rival whose exact score is above its own. Assumes nothing.
use Prim.Native.Nat.{ℕ, ◌+◌, ◌*◌, ◌%◌, ◌^◌, ◌≤◌, ◌<◌}
use native.Mathlib.Nat.{le_trans, le_of_eq, one-mul}
use mathlib.Core.Path.{◌≡◌, refl, subst}
use mathlib.Core.Bool.{Bool, true, false, ◌&&◌, ◌||◌}
use mathlib.Core.List.{List}
use native.Mathlib.Omega.{arith}
use lib.Dec.{T, eqb, eqb→eq, lit<, lit≤}
use lib.Bits.{bit_and}
use lib.Count.{ones}
use lib.ListN.{length, replicate, length-replicate, get_or-replicate}
use lib.IntN.{ℤ, pos, negsuc, nat_abs}
use lib.Signed.{lt_z, ◌<ℤ◌}
use lib.Ieee.{Float, binary32, nan, fin, of_int, add, sub, lt, fits, le}
use lib.Ieee.Fits.{and_l, and_r}
use Rattle.ieee.specs.Whole.{Whole, run}
use Rattle.ieee.specs.Within.{Within}
use Rattle.ieee.specs.Size.{Upto}
use Rattle.ieee.specs.Units.{Units, units}
use Rattle.ieee.proofs.Sizes.{upto-within}
use Rattle.ieee.proofs.Units.{in_units, units-fits, units-size}
use Rattle.ieee.proofs.Values.{of_int-whole}
use Rattle.util.specs.Choose.{choose}
use Rattle.util.specs.Table.{tabled}
use Rattle.util.proofs.Fill.{tabled-length, tabled-at}
use Rattle.conv.specs.Encoder.{state, walk_register, made, bit}
use Rattle.trellis.specs.Trellis.{Trellis, walk_score, closed_score}
use Rattle.trellis.specs.Scale.{Scale, highest}
use Rattle.trellis.specs.Search.{closing, trace_start, trace_word, beats, scores, decision, candidates, begin, closes_in, last, ceiling_to, ceiling, best}
use Rattle.trellis.specs.Search.{settled, search}
use Rattle.trellis.specs.Numbers.{single, whole}
use Rattle.trellis.specs.Terms.{lent, WholeTerms, UnitTerms}
use Rattle.trellis.proofs.Integers.{ranked}
use Rattle.trellis.proofs.Demand.{unique}
use Rattle.trellis.proofs.Finite.{Accepted}
use Rattle.trellis.proofs.Every.{every, every-at}

-- ---- terms

-- the f32 values of whole numbers
abbrev pub values : (ℕ → ℤ) → ℕ → List Float
values ints m = tabled m (λ i. of_int binary32 (ints i))

-- any whole numbers from -800 to 800 are such terms
pub any-whole : (ints : ℕ → ℤ) (m : ℕ) → ((i : ℕ) → i < m → nat_abs (ints i) ≤ 800) → WholeTerms 800 (values ints m) ints
any-whole ints m small = record { whole = λ i h. is i (low i h); small = λ i h. small i (low i h) }
  where
    low : (i : ℕ) → i < length (values ints m) → i < m
    low i h = subst (λ (n : ℕ). i < n) (tabled-length m (λ j. of_int binary32 (ints j))) h

    is : (i : ℕ) → i < m → Whole (lent (values ints m) i) (ints i)
    is i h = rw (tabled-at m i (λ j. of_int binary32 (ints j)) nan h) (of_int-whole binary32 (ints i) (omega (arith, small i h)))

-- zeros are accepted, of either sign
pub zeros-accepted : (n : ℕ) (s : Bool) → Accepted (replicate n (fin s 0 (pos 0)))
unfolding fits le
zeros-accepted n s = record { held = λ i h. rw (zero-at i h) tt; within = λ i h. rw (zero-at i h) (by s) }
  where
    zero-at : (i : ℕ) → i < length (replicate n (fin s 0 (pos 0))) → lent (replicate n (fin s 0 (pos 0))) i ≡ fin s 0 (pos 0)
    zero-at i h = get_or-replicate n i (fin s 0 (pos 0)) nan (subst (λ (m : ℕ). i < m) (length-replicate n (fin s 0 (pos 0))) h)

    by : (s : Bool) → Within (fin true 15625 (pos 6)) (fin false 15625 (pos 6)) (fin s 0 (pos 0))
    by true = record { from = tt; to = tt }
    by false = record { from = tt; to = tt }

-- every list of f32 values from -2^a to 2^a has its exact values in units of 2^-149
pub any-units : (a : ℕ) (terms : List Float) → ((i : ℕ) → i < length terms → T (fits binary32 (lent terms i)) × Upto 1 a (lent terms i))
    → UnitTerms a terms (λ i. in_units 149 (lent terms i))
any-units a terms h =
    record { units = unit; small = λ i l. le_trans (units-size (h i l).1 (unit i l)) (le_of_eq (one-mul (2 ^ (a + 149)))) }
  where
    unit : (i : ℕ) → i < length terms → Units 149 (lent terms i) (in_units 149 (lent terms i))
    unit i l = units-fits binary32 (lent terms i) (h i l).0 (h i l).1.finite

-- so all accepted terms have, and 20 is an a for them
pub accepted-units : (terms : List Float) → Accepted terms → UnitTerms 20 terms (λ i. in_units 149 (lent terms i))
accepted-units terms h =
    any-units 20 terms (λ i l. (h.held i l, upto-within (record { finite = tt; size = lit≤ tt }) (record { finite = tt; size = lit≤ tt }) (h.within i l)))

-- ---- a closed word that beats every other walk

-- a code of 4 states with generators 7 and 5, 5 steps; at each step the label of the word's own step earns 1, every other nothing
parity : ℕ → ℕ → ℕ
parity g r = ones (bit_and g r) % 2

small_label : ℕ → ℕ
small_label r = parity 7 r + 2 * parity 5 r

pub small_clean : ℕ → Trellis ℤ
small_clean w =
    record {
      scale = whole;
      states = 4;
      steps = 5;
      earn = λ j r. choose (eqb (small_label r) (small_label (walk_register 4 (made (bit w) 5 2) (bit w) j))) (pos 1) (pos 0);
    }

-- every walk but that of the word 13 scores less: all 4 · 32 are worked out
less-or-it : ℕ → ℕ → Bool
less-or-it p v = lt_z (walk_score (small_clean 13) p v) (closed_score (small_clean 13) 2 13) || (eqb p (made (bit 13) 5 2) && eqb v 13)

all-less : T (every 4 (λ p. every 32 (less-or-it p)))
unfolding every less-or-it small_clean small_label parity run state made ones
all-less = tt

pub beats-all : (p v : ℕ) → p < 4 → v < 32 → ((p ≡ made (bit 13) 5 2) × (v ≡ 13) → ⊥)
    → walk_score (small_clean 13) p v <ℤ closed_score (small_clean 13) 2 13
unfolding less-or-it
beats-all p v hp hv other =
    go (lt_z (walk_score (small_clean 13) p v) (closed_score (small_clean 13) 2 13)) refl
    (every-at 32 (less-or-it p) (every-at 4 (λ q. every 32 (less-or-it q)) all-less p hp) v hv)
  where
    it : T (eqb p (made (bit 13) 5 2) && eqb v 13) → ⊥
    it t =
        let start = made (bit 13) 5 2 in
        other (eqb→eq p start (and_l (eqb p start) (eqb v 13) t), eqb→eq v 13 (and_r (eqb p start) (eqb v 13) t))

    go : (c : Bool) → lt_z (walk_score (small_clean 13) p v) (closed_score (small_clean 13) 2 13) ≡ c
        → T (c || (eqb p (made (bit 13) 5 2) && eqb v 13)) → walk_score (small_clean 13) p v <ℤ closed_score (small_clean 13) 2 13
    go true e t = record { lt = rw e tt }
    go false e t = absurd (it t)

pub thirteen-out : ((search (small_clean 13)).word ≡ 13) × ((search (small_clean 13)).how ≡ closing 1)
unfolding small_clean
thirteen-out = unique whole 2 (lit< tt) 5 (lit≤ tt) (small_clean 13).earn ranked 13 (λ p v hp hv other. (beats-all p v hp hv other).lt)

-- ---- a rival above the word, by less than rounding loses

-- a code of 4 states, 2 steps: every register earns `big` at step 0, and at step 1 register 7 earns `little`, every other nothing
pub rounding : {A : Type 0} → Scale A → A → A → Trellis A
rounding S big little =
    record { scale = S; states = 4; steps = 2; earn = λ j r. choose (eqb j 0) big (choose (eqb r 7) little S.nil) }

-- in f32 with 2^20 and 2^-5 all walks tie, since 2^20 + 2^-5 rounds to 2^20: the word 0 is out, by closing in the first pass
pub rounded-out : search (rounding single (fin false 1 (pos 20)) (fin false 1 (negsuc 4))) ≡ record { how = closing 1; word = 0; score = fin false 1 (pos 20) }
unfolding rounding search settled best last closes_in begin candidates beats trace_start trace_word highest scores decision lt add sub
rounded-out = refl

-- with 2^20 for its ceiling
pub rounded-ceiling : ceiling (rounding single (fin false 1 (pos 20)) (fin false 1 (negsuc 4))) ≡ fin false 1 (pos 20)
unfolding rounding ceiling ceiling_to last closes_in begin trace_start highest scores decision lt add sub
rounded-ceiling = refl

-- and the exact score of the word 3, in units of 2^-5, is above its own, and so above that ceiling
pub rival-above : closed_score (rounding whole (pos (2 ^ 25)) (pos 1)) 2 0 <ℤ closed_score (rounding whole (pos (2 ^ 25)) (pos 1)) 2 3
unfolding rounding run state made
rival-above = record { lt = tt }

rounding-units : Units 5 (fin false 1 (pos 20)) (pos (2 ^ 25)) × Units 5 (fin false 1 (negsuc 4)) (pos 1)
rounding-units = (units false 1 (pos 20) (2 ^ 25) refl, units false 1 (negsuc 4) 1 refl)
