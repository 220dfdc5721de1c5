-- What is known of what was asked where it is accepted: how many rows, the lists' lengths, and the range of every number. Assumes nothing.
use Prim.Native.Nat.{ℕ, ◌*◌, ◌≤◌, ◌<◌}
use mathlib.Core.Bool.{true, false, not, and-eq-true_iff}
use mathlib.Core.List.{List}
use mathlib.Core.Path.{◌≡◌, sym, subst}
use native.Mathlib.Omega.{arith}
use borrow.Author.Tests.{eqb-true, ltb-false, not-false}
use lib.Dec.{T, ltb}
use lib.ListN.{length, get_or}
use lib.Ieee.{Float, nan, le}
use Rattle.util.specs.Some.{some_of}
use Rattle.util.specs.Refusal.{accepted}
use Rattle.util.proofs.Choose.{past-cause}
use Rattle.util.proofs.Some.{neither, none_of}
use Rattle.frame.specs.Format.{named}
use Rattle.ieee.specs.Whole.{plus_zero}
use Rattle.ieee.specs.Within.{Within}
use Rattle.level.specs.Level.{one}
use Rattle.noise.specs.Entry.{Asked, billion, least_noise, half, thousand, outside, sizes, out_of_range, noise_answer}

-- ---- what each test leaves
-- a value that is not outside a range is within it
inside : (lo hi x : Float) → outside lo hi x ≡ false → Within lo hi x
inside lo hi x e =
    let both = (and-eq-true_iff (le lo x) (le x hi)).0 (not-false _ e) in
    record { from = subst T (sym both.0) tt; to = subst T (sym both.1) tt }

-- nor is any of a list's, where none is outside
all-inside : (lo hi : Float) (l : List Float) → some_of (outside lo hi) l ≡ false → (k : ℕ) → k < length l → Within lo hi (get_or l k nan)
all-inside lo hi l e k h = inside lo hi (get_or l k nan) (none_of (outside lo hi) l nan e k h)

lengths-are : (rows energies noise factors : ℕ) → sizes rows energies noise factors ≡ true
    → (energies ≡ 52 * rows) × (noise ≡ 52) × (factors ≡ 52 * rows)
unfolding sizes
lengths-are rows energies noise factors e =
    let first = (and-eq-true_iff _ _).0 e in
    let rest = (and-eq-true_iff _ _).0 first.1 in
    (eqb-true _ _ first.0, eqb-true _ _ rest.0, eqb-true _ _ rest.1)

record InRange (rows : ℕ) (eps r : Float) (noise energies : List Float) : Type 0 where
  few : rows ≤ 2048
  part : Within plus_zero half eps
  ratio : Within one thousand r
  noises : some_of (outside least_noise billion) noise ≡ false
  heard : some_of (outside plus_zero billion) energies ≡ false

in-range : (rows : ℕ) (eps r : Float) (noise energies : List Float) → out_of_range rows eps r noise energies ≡ false → InRange rows eps r noise energies
unfolding out_of_range
in-range rows eps r noise energies e =
    let first = neither (ltb 2048 rows) _ e in
    let second = neither (outside plus_zero half eps) _ first.1 in
    let third = neither (outside one thousand r) _ second.1 in
    let fourth = neither (some_of (outside least_noise billion) noise) _ third.1 in
    record {
      few = ltb-false 2048 rows first.0;
      part = inside plus_zero half eps second.0;
      ratio = inside one thousand r third.0;
      noises = fourth.0;
      heard = fourth.1;
    }

-- ---- all of it, with a list of that many factors lent
pub record Accepted (a : Asked) (lent : ℕ) : Type 0 where
  pub format : named a.heard.mode a.heard.kind ≡ true
  pub few : a.heard.rows ≤ 2048
  pub energies-long : length a.heard.energies ≡ 52 * a.heard.rows
  pub noise-long : length a.heard.noise ≡ 52
  pub factors-long : lent ≡ 52 * a.heard.rows
  pub eps-in : Within plus_zero half a.eps
  pub r-in : Within one thousand a.r
  pub noise-in : (b : ℕ) → b < 52 → Within least_noise billion (get_or a.heard.noise b nan)
  pub energy-in : (k : ℕ) → k < 52 * a.heard.rows → Within plus_zero billion (get_or a.heard.energies k nan)

pub accepted-all : (a : Asked) (lent : ℕ) → noise_answer a lent ≡ accepted tt → Accepted a lent
accepted-all a lent e =
    let h = a.heard in
    let unnamed = not (named h.mode h.kind) in
    let unsized = not (sizes h.rows (length h.energies) (length h.noise) lent) in
    let far = out_of_range h.rows a.eps a.r h.noise h.energies in
    let first = past-cause unnamed 1 _ tt e in
    let second = past-cause unsized 4 _ tt first.1 in
    let third = past-cause far 15 _ tt second.1 in
    let long = lengths-are h.rows (length h.energies) (length h.noise) lent (not-false _ second.0) in
    let ranges = in-range h.rows a.eps a.r h.noise h.energies third.0 in
    record {
      format = not-false _ first.0;
      few = ranges.few;
      energies-long = long.0;
      noise-long = long.1;
      factors-long = long.2;
      eps-in = ranges.part;
      r-in = ranges.ratio;
      noise-in = λ b k. all-inside least_noise billion h.noise ranges.noises b (omega (arith, long.1));
      energy-in = λ k l. all-inside plus_zero billion h.energies ranges.heard k (omega (arith, long.0));
    }
