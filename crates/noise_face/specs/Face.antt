-- The local noise factors' face to C: the number (`number` of util's Refusal), and the lent list at exit.
use Rattle.std.specs.Prelude.{ℕ, List, ◌≡◌, length, Float}
use Rattle.util.specs.Refusal.{number}
use Rattle.noise.specs.Entry.{Asked, noise_answer, factors_after, AtLeastOne}

pub record NoiseFace (q : Asked) (factors : List Float) (r : ℕ) (factors' : List Float) : Type 0 where
  pub answer : r ≡ number (noise_answer q (length factors))
  pub of-factors : factors' ≡ factors_after q factors
  pub least : AtLeastOne (noise_answer q (length factors)) factors'
