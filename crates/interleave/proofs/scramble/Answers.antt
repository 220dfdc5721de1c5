-- `interleave::scramble` meets its contract: the code is the definition. Assumes nothing.
use Prim.Native.Nat.{ℕ, ◌%◌}
use mathlib.Core.Path.{ap}
use Rattle.interleave.specs.Interleave.{scramble_of}
use Rattle.interleave.proofs.scramble.Goals as goal

pub returns : goal.returns
unfolding scramble_of
returns c = ap (λ (x : ℕ). x % 2) c.mix64.ensures
