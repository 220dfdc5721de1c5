-- Inside: the blocks taken out of their list one by one, as points. Only contracts of inside functions cite what is here.
use Rattle.std.specs.Prelude.{ℕ, ◌<◌, true, ◌&&◌, List, ◌≡◌, leb, ltb, length, get_or, set, replicate, Float}
use Rattle.ieee.specs.Whole.{plus_zero}
use Rattle.util.specs.Choose.{choose}
use Rattle.util.specs.Every.{every}
use Rattle.blocks.specs.Doubles.{as_f64, within}
use Rattle.blocks.specs.Blocks.{nowhere, half, place2_at, before, good_at}
use Rattle.blocks.specs.declared.Block.{Block}
use Rattle.blocks.specs.declared.Point.{Point}
use Rattle.blocks.specs.declared.Gathered.{Gathered}

-- a block as a point, and what stands in an empty place
abbrev pub point_of : Block → Point
point_of b = record { place = half b.place2; timing = b.timing }

abbrev pub origin : Point
origin = record { place = plus_zero; timing = plus_zero }

-- the places and the timings of points
abbrev pub places_in : List Point → ℕ → Float
places_in ps i = (get_or ps i origin).place

abbrev pub timings_in : List Point → ℕ → Float
timings_in ps i = (get_or ps i origin).timing

abbrev pub nothing : Gathered
nothing = record { points = replicate 64 origin; last = 0; top = 0; good = true }

-- block i more
abbrev pub push_of : Gathered → ℕ → Block → Gathered
push_of g i b =
    record {
      points = set g.points i (point_of b);
      last = b.place2;
      top = choose (ltb g.top b.place2) b.place2 g.top;
      good = g.good && (leb g.last b.place2 && (leb b.place2 4096 && within (as_f64 4096) b.timing));
    }

-- g is what the first k blocks give
pub record Gathers (bs : List Block) (k : ℕ) (g : Gathered) : Type 0 where
  pub long : length g.points ≡ 64
  pub points : (i : ℕ) → i < k → get_or g.points i origin ≡ point_of (get_or bs i nowhere)
  pub last : g.last ≡ before (place2_at bs) k
  pub top : (most : ℕ) → leb g.top most ≡ every k (λ i. leb (place2_at bs i) most)
  pub good : g.good ≡ every k (good_at bs)
