-- The soft values' face to C: the number (`number` of util's Refusal), and the three lent lists at exit.
use Rattle.std.specs.Prelude.{ℕ, List, ◌≡◌, Float}
use Rattle.util.specs.Refusal.{number}
use Rattle.soft.specs.Entry.{Asked, soft_answer, work_after, metrics_after, soft_after}

pub record SoftFace (q : Asked) (r : ℕ) (work' metrics' soft' : List Float) : Type 0 where
  pub answer : r ≡ number (soft_answer q)
  pub of-work : work' ≡ work_after q
  pub of-metrics : metrics' ≡ metrics_after q
  pub of-soft : soft' ≡ soft_after q
