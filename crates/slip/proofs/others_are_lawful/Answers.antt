-- `slip::others_are_lawful` meets its contract: what is finite less itself is 0.0, and nothing else is. Assumes nothing.
use Prim.Native.Nat.{ℕ, ◌*◌, ◌^◌, ◌<◌}
use mathlib.Core.Bool.{Bool, true, false, not, and-true}
use mathlib.Core.Path.{◌≡◌, refl, sym, ap, ◌∙◌}
use native.Mathlib.Nat.{sub_self, le_refl, one-le-mul}
use native.Mathlib.Omega.{arith}
use borrow.Author.Tests.{lt-ltb, le-ltb}
use lib.Dec.{lit<}
use lib.Ieee.{Float, nan, inf, fin, up, down, binary32, eq, sub, add, neg, sum, round, of_bits}
use lib.Ieee.Positive.{den_pos}
use lib.Ieee.Scale.{finite, round_same}
use Rattle.ieee.specs.Whole.{plus_zero}
use Rattle.ieee.proofs.Rounds.{zero-round}
use Rattle.slip.proofs.others_are_lawful.Goals as goal

-- a sum of nothing, whatever its denominator
nothing : (c : ℕ) → 0 < c → round binary32 false 0 c ≡ plus_zero
nothing c h = round_same binary32 false 0 c 0 1 h (lit< tt) (omega arith) ∙ zero-round binary32

cancelled : (s : Bool) (a c : ℕ) → 0 < c → sum binary32 s a (not s) a c ≡ plus_zero
unfolding sum
cancelled false a c h = rw (le-ltb a a (le_refl a), sub_self a) (nothing c h)
cancelled true a c h = rw (le-ltb a a (le_refl a), sub_self a) (nothing c h)

less-itself : (x : Float) → eq (sub binary32 x x) (of_bits binary32 0) ≡ finite x
unfolding eq sub add neg of_bits
less-itself nan = refl
less-itself (inf false) = refl
less-itself (inf true) = refl
less-itself (fin s m e) =
    let below = one-le-mul (den_pos (fin s m e)) (den_pos (fin s m e)) in
    ap (λ (x : Float). eq x plus_zero) (cancelled s (m * up e * down e) (down e * down e) below)

pub returns : goal.returns
returns c =
    less-itself c.args.score
    ∙ rw (
      c.well_formed.0.1,
      lt-ltb c.args.start (2 ^ 64) c.ranges.start.fits,
      lt-ltb c.args.segment (2 ^ 16) c.ranges.segment.fits,
    ) (sym (and-true (finite c.args.score)))
