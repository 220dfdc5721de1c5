-- A sum of values some of which are missing: rounded to f32 at each step. A missing one adds nothing: it is no 0.0, of
-- which there would be one more to count.
use Rattle.std.specs.Prelude.{ℕ, zero, suc, Float}
use Rattle.std.proofs.Math.Option.{Option, none, some}
use Rattle.std.specs.Float.{binary32}
use Rattle.std.specs.Float.Ieee.{add}
use Rattle.ieee.specs.Whole.{plus_zero}

abbrev pub with_next : Float → Option Float → Float
with_next s none = s
with_next s (some x) = add binary32 s x

-- from 0.0, those of the first n that are there, in their order
unfoldable pub sum_of : (ℕ → Option Float) → ℕ → Float
sum_of held zero = plus_zero
sum_of held (suc n) = with_next (sum_of held n) (held n)
