-- Where a call is accepted every value in it is bounded: so no NaN arises, each row's strongest tone and median are what their names say, and every
-- factor is finite and at least 1. Assumes nothing.
use Prim.Native.Nat.{ℕ, zero, suc, ◌+◌, ◌*◌, ◌-◌, ◌/◌, ◌%◌, ◌^◌, ◌≤◌, ◌<◌}
use mathlib.Core.Bool.{Bool, true, false, ◌&&◌, and-eq-true_iff}
use mathlib.Core.List.{List}
use mathlib.Core.Option.{Option, none, some, none-ne-some}
use mathlib.Core.Path.{◌≡◌, refl, sym, ap, subst}
use native.Mathlib.Nat.{mul-le-mul_right}
use native.Mathlib.Omega.{arith}
use borrow.Author.Tests.{leb-true, ltb-true}
use lib.Dec.{T, leb, ltb, lit≤, lit<}
use lib.IntN.{pos, negsuc}
use lib.ListN.{length, get_or}
use lib.Ieee.{Float, fin, nan, binary32, of_bits, of_int, add, sub, mul, div, le, is_nan}
use lib.Ieee.Scale.{finite}
use Rattle.util.specs.Choose.{choose}
use Rattle.util.specs.Table.{rows}
use Rattle.util.specs.Refusal.{Outcome, accepted, afterwards}
use Rattle.util.proofs.Choose.{by-case}
use Rattle.util.proofs.Fill.{tabled-at, tabled-length}
use Rattle.frame.specs.Format.{header_bits}
use Rattle.frame.specs.Air.{hop_of, bin_of, place_of}
use Rattle.frame.proofs.Air.{some-bins, bins-some, bin-below}
use Rattle.ieee.specs.Whole.{plus_zero}
use Rattle.ieee.specs.Within.{Within, larger}
use Rattle.ieee.specs.Size.{Upto, Least}
use Rattle.ieee.proofs.Order.{finite-not-nan}
use Rattle.ieee.proofs.Values.{of_int-whole}
use Rattle.ieee.proofs.Intervals.{within-finite, point, add-in, sub_in, mul_in, div-in, larger-one, larger-above}
use Rattle.ieee.proofs.Sizes.{upto_zero, upto-wider, upto-within, add-upto, sub-upto, div-upto, least-whole, least_above}
use Rattle.root.specs.Root.{root_of}
use Rattle.root.proofs.Nearest.{root_in}
use Rattle.level.specs.Row.{ratio_of}
use Rattle.level.specs.Rank.{there_of, of_rank}
use Rattle.level.specs.Level.{one, three, ln2, level_from, level_of}
use Rattle.level.proofs.Counting.{count_most}
use Rattle.level.proofs.Found.{NoNan, found}
use Rattle.level.proofs.Five.{there-only}
use Rattle.level.proofs.Tone.{strongest-is, strongest-five}
use Rattle.nearby.specs.Sum.{with_next, sum_of}
use Rattle.noise.specs.Local.{Burst, bins_of, read_of, ratios, tone, held, around}
use Rattle.noise.specs.Local.{empty_mean, two, two_errors, bin_level, factor_from, factor_at, factors_of}
use Rattle.noise.specs.Entry.{Asked, billion, least_noise, half, thousand, noise_answer, factors_after, AtLeastOne}
use Rattle.noise.specs.Claims.{SoundRow}
use Rattle.noise.proofs.Accepted.{Accepted, accepted-all}

-- ---- the ratios
-- 10^9 / 2^-20 = 1,953,125 · 2^29
abbrev pub most : Float
most = fin false 1953125 (pos 29)

ratio-in : (e n : Float) → Within plus_zero billion e → Within least_noise billion n → Within plus_zero most (div binary32 e n)
unfolding le div
ratio-in e n E N = div-in binary32 plus_zero most E N tt

pub ratio-finite : (x : Float) → Within plus_zero most x → T (finite x)
ratio-finite x w = within-finite plus_zero most x tt tt w

-- it lies below 2^50
ends-upto : Upto 1 50 plus_zero × Upto 1 50 most
ends-upto = (record { finite = tt; size = lit≤ tt }, record { finite = tt; size = lit≤ tt })

pub ratio-upto : (x : Float) → Within plus_zero most x → Upto 1 50 x
ratio-upto x w = upto-within ends-upto.0 ends-upto.1 w

-- at most 52 bins are read, and more than five
pub read-most : (a : Burst) → (36 ≤ read_of a) × (read_of a ≤ 52)
read-most a = (omega (arith, (some-bins a.mode).0), omega (arith, (some-bins a.mode).1))

module _ (a : Asked) (lent : ℕ) (ok : Accepted a lent) where
  pub ratios-in : (i b : ℕ) → i < a.heard.rows → b < 52 → Within plus_zero most (ratios a.heard i b)
  unfolding ratio_of
  ratios-in i b h k = ratio-in _ _ (ok.energy-in (52 * i + b) (omega arith)) (ok.noise-in b k)

  -- what is held is a ratio; a missing cell says nothing
  pub held_in : (i b : ℕ) (x : Float) → i < a.heard.rows → b < 52 → held a.heard i b ≡ some x → Within plus_zero most x
  unfolding held
  held_in i b x h k c =
      subst (λ (y : Float). Within plus_zero most y) (sym (there-only (ratios a.heard i) (tone a.heard i) b x c).0) (ratios-in i b h k)

  -- so is what stands in the 25 rows around
  pub around-in : (i b k : ℕ) (x : Float) → b < 52 → around a.heard i b k ≡ some x → Within plus_zero most x
  unfolding around
  around-in i b k x h c = by (leb 12 (i + k) && ltb (i + k) (a.heard.rows + 12)) refl c
    where
      by : (t : Bool) → (leb 12 (i + k) && ltb (i + k) (a.heard.rows + 12)) ≡ t → choose t (held a.heard (i + k - 12) b) none ≡ some x
          → Within plus_zero most x
      by false e d = absurd (none-ne-some x d)
      by true e d =
          let both = (and-eq-true_iff (leb 12 (i + k)) (ltb (i + k) (a.heard.rows + 12))).0 e in
          let low : 12 ≤ i + k = leb-true 12 (i + k) both.0 in
          let high : i + k < a.heard.rows + 12 = ltb-true (i + k) (a.heard.rows + 12) both.1 in
          held_in (i + k - 12) b x (omega arith) h d

  pub no_nan : (i n : ℕ) → i < a.heard.rows → n ≤ 52 → NoNan (held a.heard i) n
  no_nan i n h l b x k c = finite-not-nan x (ratio-finite x (held_in i b x h (omega arith) c))

-- ---- a row's strongest tone and its median
-- all but five bins of what is read are there, whatever was heard
pub all-but-five : (a : Burst) (i : ℕ) → there_of (held a i) (read_of a) + 5 ≡ read_of a
unfolding held
all-but-five a i =
    strongest-five (bins_of a) (hop_of (bins_of a) (header_bits a.kind + i)) (ratios a i) (read_of a) (bins-some a.mode) (omega arith)

sound-row : (a : Asked) (lent : ℕ) → Accepted a lent → (i : ℕ) → i < a.heard.rows → SoundRow a.heard i
sound-row a lent ok i h =
    let b = a.heard in
    let hop = hop_of (bins_of b) (header_bits b.kind + i) in
    let read = read-most b in
    record {
      strongest = strongest-is (bins_of b) hop (ratios b i) (λ v k.
          let place = place_of (bin_of (bins_of b) hop v) in
          finite-not-nan (ratios b i place)
          (ratio-finite (ratios b i place) (ratios-in a lent ok i place h (omega (arith, bin-below (bins_of b) hop v (bins-some b.mode))))));
      there = all-but-five b i;
      median = found (held b i) (read_of b) ((read_of b - 5) / 2) (no_nan a lent ok i (read_of b) h read.1) (omega (arith, all-but-five b i));
    }

pub sound : (a : Asked) (lent : ℕ) → noise_answer a lent ≡ accepted tt → (i : ℕ) → i < a.heard.rows → SoundRow a.heard i
sound a lent e i h = sound-row a lent (accepted-all a lent e) i h

-- ---- the sum over a bin's rows
-- one cell more, each being at most 2^p
next-upto : (n p : ℕ) (s : Float) (cell : Option Float) → n + 1 < 2 ^ 24 → p + 24 ≤ 127 → Upto n p s → ((x : Float) → cell ≡ some x → Upto 1 p x)
    → Upto (n + 1) p (with_next s cell)
next-upto n p s none l g u h = upto-wider (n + 1) p u (mul-le-mul_right (2 ^ p) (omega arith))
next-upto n p s (some x) l g u h = add-upto binary32 u (h x refl) l g

pub sum-upto : (cells : ℕ → Option Float) (p n : ℕ) → n < 2 ^ 24 → p + 24 ≤ 127 → ((k : ℕ) (x : Float) → k < n → cells k ≡ some x → Upto 1 p x)
    → Upto n p (sum_of cells n)
unfolding sum_of
sum-upto cells p zero l g h = upto_zero
sum-upto cells p (suc n) l g h =
    let e : n + 1 ≡ suc n = omega arith in
    subst (λ (m : ℕ). Upto m p (with_next (sum_of cells n) (cells n))) e
    (next-upto n p (sum_of cells n) (cells n) (omega arith) g (sum-upto cells p n (omega arith) g (λ k x j. h k x (omega arith)))
    (λ x. h n x (omega arith)))

-- ---- the mean of an empty bin: 1 + eps · (r - 1), at most 500.5
abbrev pub few_hundred : Float
few_hundred = fin false 1 (pos 9)

pub empty-in : (eps r : Float) → Within plus_zero half eps → Within one thousand r → Within one few_hundred (empty_mean eps r)
unfolding empty_mean le add sub mul
empty-in eps r E R =
    let over : Within plus_zero thousand (sub binary32 r one) = sub_in binary32 plus_zero thousand R (point one tt) tt in
    let part : Within plus_zero (fin false 125 (pos 2)) (mul binary32 eps (sub binary32 r one)) =
    mul_in binary32 plus_zero (fin false 125 (pos 2)) E over tt in
    add-in binary32 one few_hundred (point one tt) part tt

-- ---- what is taken off a bin's level and off a row's
-- 1/4, 3/8
abbrev pub quarter : Float
quarter = fin false 1 (negsuc 1)

abbrev pub three_eighths : Float
three_eighths = fin false 3 (negsuc 2)

pub two-errors-in : (c : ℕ) → 1 ≤ c → c ≤ 52 → Within quarter two (two_errors c)
unfolding two_errors le div
two-errors-in c l h = div-in binary32 quarter two (point two tt) (root_in c l h) tt

pub median-errors-in : (m : ℕ) → 1 ≤ m → m ≤ 52 → Within three_eighths three (div binary32 three (root_of m))
unfolding le div
median-errors-in m l h = div-in binary32 three_eighths three (point three tt) (root_in m l h) tt

-- ---- a row's level
-- -3 and 2^51
abbrev minus_three : Float
minus_three = fin true 3 (pos 0)

abbrev large : Float
large = fin false 1 (pos 51)

level-from-finite : (median less : Float) → Within plus_zero most median → Within three_eighths three less → T (finite (level_from median less))
unfolding level_from ln2 of_bits le sub div
level-from-finite median less M L =
    let mean : Within plus_zero large (div binary32 median ln2) = div-in binary32 plus_zero large M (point ln2 tt) tt in
    let own : Within minus_three large (sub binary32 (div binary32 median ln2) less) = sub_in binary32 minus_three large mean L tt in
    larger-one (λ (x : Float). T (finite x)) (sub binary32 (div binary32 median ln2) less) one (within-finite minus_three large _ tt tt own) tt

pub level-finite : (a : Asked) (lent : ℕ) → Accepted a lent → (i : ℕ) → i < a.heard.rows
    → T (finite (level_of (held a.heard i) (read_of a.heard)))
unfolding level_of
level-finite a lent ok i h =
    let b = a.heard in
    let n = read_of b in
    let m = there_of (held b i) n in
    let read = read-most b in
    let five = all-but-five b i in
    let r = found (held b i) n (m / 2) (no_nan a lent ok i n h read.1) (omega arith) in
    let median = of_rank (held b i) n (m / 2) in
    by-case (λ (x : Float). T (finite x)) (ltb m 8) one (level_from median (div binary32 three (root_of m))) (λ t. tt)
    (λ t.
    level-from-finite median (div binary32 three (root_of m))
    (held_in a lent ok i r.place median h (omega (arith, r.within)) r.there)
    (median-errors-in m (omega arith) (omega arith)))

-- ---- a bin's level
one-least : Least 0 one
one-least = record { finite = tt; size = lit≤ tt }

two-upto : Upto 1 50 two × Upto 1 50 quarter
two-upto = (record { finite = tt; size = lit≤ tt }, record { finite = tt; size = lit≤ tt })

-- the mean of at least one value, in units of that of an empty bin, less two standard errors: the bounds only grow
bin-own : (sum empty less : Float) (count : ℕ) → 1 ≤ count → count ≤ 25 → Upto 25 50 sum → Within one few_hundred empty → Within quarter two less
    → T (finite (sub binary32 (div binary32 (div binary32 sum (of_int binary32 (pos count))) empty) less))
unfolding le
bin-own sum empty less count l h S E L =
    let some-rows : Least 0 (of_int binary32 (pos count)) = least-whole (of_int-whole binary32 (pos count) (omega arith)) l in
    let not-small : Least 0 empty = least_above one-least tt E.from (within-finite one few_hundred empty tt tt E) in
    let mean : Upto 25 50 (div binary32 sum (of_int binary32 (pos count))) = div-upto binary32 S some-rows (lit< tt) (lit≤ tt) in
    let own : Upto 25 50 (div binary32 (div binary32 sum (of_int binary32 (pos count))) empty) = div-upto binary32 mean not-small (lit< tt) (lit≤ tt) in
    (sub-upto binary32 own (upto-within two-upto.1 two-upto.0 L) (lit< tt) (lit≤ tt)).finite

bin-finite : (sum empty : Float) (count : ℕ) → count ≤ 25 → Upto 25 50 sum → Within one few_hundred empty
    → T (finite (bin_level sum count empty (two_errors count)))
unfolding bin_level
bin-finite sum empty count h S E =
    by-case (λ (x : Float). T (finite x)) (leb 6 count)
    (sub binary32 (div binary32 (div binary32 sum (of_int binary32 (pos count))) empty) (two_errors count)) one
    (λ t.
    let many : 6 ≤ count = leb-true 6 count t in
    bin-own sum empty (two_errors count) count (omega arith) h S E (two-errors-in count (omega arith) (omega arith)))
    (λ t. tt)

-- ---- a factor
abbrev Fine : Float → Type 0
Fine x = T (finite x) × T (le one x)

one-fine : Fine one
unfolding le
one-fine = (tt, tt)

-- the larger of anything finite and 1
with-one : (x : Float) → T (finite x) → Fine (larger x one)
unfolding is_nan
with-one x F = (larger-one (λ (y : Float). T (finite y)) x one F tt, (larger-above x one (finite-not-nan x F) tt).1)

factor-from : (sum empty level : Float) (count : ℕ) → count ≤ 25 → Upto 25 50 sum → Within one few_hundred empty → T (finite level)
    → Fine (factor_from sum count empty (two_errors count) level)
unfolding factor_from
factor-from sum empty level count h S E L =
    let own = bin_level sum count empty (two_errors count) in
    with-one (larger own level) (larger-one (λ (y : Float). T (finite y)) own level (bin-finite sum empty count h S E) L)

factor-fine : (a : Asked) (lent : ℕ) → Accepted a lent → (i b : ℕ) → i < a.heard.rows → Fine (factor_at a.heard (empty_mean a.eps a.r) i b)
unfolding factor_at
factor-fine a lent ok i b h =
    let p = a.heard in
    let empty = empty_mean a.eps a.r in
    let cells = around p i b in
    let count = there_of cells 25 in
    let level = level_of (held p i) (read_of p) in
    by-case Fine (ltb b (read_of p)) (factor_from (sum_of cells 25) count empty (two_errors count) level) one
    (λ t.
    let read : b < read_of p = ltb-true b (read_of p) t in
    let low : b < 52 = omega (arith, (read-most p).1) in
    factor-from (sum_of cells 25) empty level count (count_most (λ x. true) cells 25)
    (sum-upto cells 50 25 (lit< tt) (lit≤ tt) (λ k x l c. ratio-upto x (around-in a lent ok i b k x low c)))
    (empty-in a.eps a.r ok.eps-in ok.r-in)
    (level-finite a lent ok i h))
    (λ t. one-fine)

-- ---- every factor
factors-fine : (a : Asked) (lent : ℕ) → Accepted a lent → (k : ℕ) → k < 52 * a.heard.rows
    → Fine (get_or (factors_of a.heard (empty_mean a.eps a.r)) k nan)
unfolding factors_of rows
factors-fine a lent ok k h =
    let f = factor_at a.heard (empty_mean a.eps a.r) in
    subst Fine (sym (tabled-at (52 * a.heard.rows) k (rows 52 f) nan h)) (factor-fine a lent ok (k / 52) (k % 52) (omega arith))

pub least : (a : Asked) (lent : ℕ) → noise_answer a lent ≡ accepted tt → (k : ℕ) → k < 52 * a.heard.rows
    → T (finite (get_or (factors_of a.heard (empty_mean a.eps a.r)) k nan))
    × T (le one (get_or (factors_of a.heard (empty_mean a.eps a.r)) k nan))
least a lent e k h = factors-fine a lent (accepted-all a lent e) k h

-- so are those that an answer leaves in the lent list
pub at_least_one : (a : Asked) (was : List Float) → AtLeastOne (noise_answer a (length was)) (factors_after a was)
unfolding factors_of
at_least_one a was =
    record {
      each = λ e k h.
          let made = factors_of a.heard (empty_mean a.eps a.r) in
          let left : factors_after a was ≡ made = ap (λ (o : Outcome Unit). afterwards o was made) e in
          let long : length made ≡ 52 * a.heard.rows = tabled-length (52 * a.heard.rows) _ in
          subst (λ (l : List Float). Fine (get_or l k nan)) (sym left) (least a (length was) e k (omega (arith, long, ap length left, h)));
    }
