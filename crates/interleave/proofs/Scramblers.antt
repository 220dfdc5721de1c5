-- A scrambling bit is one of 2, and a scrambling value one of 32. Assumes nothing.
use Prim.Native.Nat.{ℕ, ◌<◌}
use native.Mathlib.Omega.{arith}
use Rattle.interleave.specs.Interleave.{scramble_of, sym_scramble_of}

pub scramble-below : (p : ℕ) → scramble_of p < 2
unfolding scramble_of
scramble-below p = omega arith

pub scrambled-below : (p : ℕ) → sym_scramble_of p < 32
unfolding sym_scramble_of
scrambled-below p = omega arith
