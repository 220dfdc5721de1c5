-- The loop's invariant: the two numbers of a turn have the greatest common divisor of the first two (Euclid's step);
-- where the second is 0 it is the first. The measure is the second. Assumes nothing.
use Rattle.std.proofs.Common.{◌≡◌}
use Rattle.util.specs.Factor.{gcd_of}
use Rattle.util.proofs.gcd.Given as goal

abbrev pub invariant-loop-y : goal.invariant-loop-y
invariant-loop-y l = gcd_of l.x l.y ≡ gcd_of l.a l.b

abbrev pub decreases-loop-y : goal.decreases-loop-y
decreases-loop-y l = l.y
