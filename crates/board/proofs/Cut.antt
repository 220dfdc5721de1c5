-- A board's places read one after another: the first of those that are left, and the rest. Assumes nothing.
use Prim.Native.Nat.{ℕ, zero, suc, ◌*◌}
use mathlib.Core.List.{List, ◌∷◌, ◌++◌}
use mathlib.Core.Path.{◌≡◌, ap, ap₂, ◌∙◌}
use native.Mathlib.Omega.{arith}
use lib.ListN.{length, take, drop, length-append}
use lib.Seq.{take_at, drop_at}
use Rattle.std.specs.Prelude.{Option, None, Some, Bool, true, false, ◌&&◌, leb}
use Rattle.util.specs.Choose.{choose}
use Rattle.slip.specs.Slips.{is_slip}
use Rattle.board.specs.Places.{places, segment_of, rising}

-- n places are left, and the first of them is read
pub record Cut (n : ℕ) (left place rest : List ℕ) : Type 0 where
  pub fewer : ℕ
  pub size : length rest ≡ 44 * fewer
  pub count : n ≡ suc fewer
  pub places_are : places n left ≡ place ∷ places fewer rest

pub cut : (n : ℕ) (left place rest : List ℕ) → length left ≡ 44 * n → left ≡ place ++ rest → length place ≡ 44 → Cut n left place rest
unfolding places
cut zero left place rest long whole size = absurd (omega (arith, long, size, ap length whole ∙ length-append place rest))
cut (suc m) left place rest long whole size =
    record {
      fewer = m;
      size = omega (arith, long, size, ap length whole ∙ length-append place rest);
      count = λ i. suc m;
      places_are = ap₂ (λ (s b : List ℕ). s ∷ places m b) (ap (take 44) whole ∙ take_at place rest 44 size) (ap (drop 44) whole ∙ drop_at place rest 44 size);
    }

-- by the least segment that may come after the first, where the first is a slip that may stand there
abbrev pub from_next : Option ℕ → List (List ℕ) → Bool
from_next None ss = false
from_next (Some n) ss = rising n ss

pub past_first : (k : ℕ) (s : List ℕ) (ss : List (List ℕ)) (o : Option ℕ)
    → o ≡ choose (is_slip s && leb k (segment_of s)) (Some (suc (segment_of s))) None → from_next o ss ≡ rising k (s ∷ ss)
unfolding rising
past_first k s ss o e = by (is_slip s) (leb k (segment_of s)) e
  where
    by : (t u : Bool) → o ≡ choose (t && u) (Some (suc (segment_of s))) None
        → from_next o ss ≡ (t && (u && rising (suc (segment_of s)) ss))
    by true true e = ap (λ (p : Option ℕ). from_next p ss) e
    by true false e = ap (λ (p : Option ℕ). from_next p ss) e
    by false u e = ap (λ (p : Option ℕ). from_next p ss) e
