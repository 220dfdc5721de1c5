-- `frame::hop_among` meets its contract: the code is the definition. Assumes nothing.
use Prim.Native.Nat.{ℕ, ◌%◌}
use mathlib.Core.Path.{ap}
use Rattle.frame.specs.Air.{hop_of}
use Rattle.frame.proofs.hop_among.Goals as goal

pub returns : goal.returns
unfolding hop_of
returns c = ap (λ (x : ℕ). x % c.args.bins) c.mix64.ensures
