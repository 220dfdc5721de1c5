-- What is claimed of every row of an accepted call (proofs/Least.antt): that its names mean what they say.
use Rattle.std.specs.Prelude.{ℕ, ◌+◌, ◌-◌, ◌/◌, ◌≡◌}
use Rattle.frame.specs.Format.{header_bits}
use Rattle.frame.specs.Air.{hop_of}
use Rattle.level.specs.Row.{Strongest}
use Rattle.level.specs.Rank.{there_of, of_rank, OfRank}
use Rattle.noise.specs.Local.{Burst, bins_of, read_of, ratios, tone, held}

-- the strongest tone is the strongest, of equals the first; all but five of the bins that are read are there; and the value
-- that the level is made of is there and has the rank of the median
pub record SoundRow (a : Burst) (i : ℕ) : Type 0 where
  pub strongest : Strongest (bins_of a) (hop_of (bins_of a) (header_bits a.kind + i)) (ratios a i) (tone a i)
  pub there : there_of (held a i) (read_of a) + 5 ≡ read_of a
  pub median : OfRank (held a i) (read_of a) ((read_of a - 5) / 2) (of_rank (held a i) (read_of a) ((read_of a - 5) / 2))
