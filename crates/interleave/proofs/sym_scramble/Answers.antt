-- `interleave::sym_scramble` meets its contract: the code is the definition. Assumes nothing.
use Prim.Native.Nat.{ℕ, ◌%◌}
use mathlib.Core.Path.{ap}
use Rattle.interleave.specs.Interleave.{sym_scramble_of}
use Rattle.interleave.proofs.sym_scramble.Goals as goal

pub returns : goal.returns
unfolding sym_scramble_of
returns c = ap (λ (x : ℕ). x % 32) c.mix64.ensures
