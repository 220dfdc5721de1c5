-- The loop's invariant: the sum is the number of the digits passed, and what is left has a byte that is no digit
-- exactly where the whole has one. Assumes nothing.
use Rattle.std.proofs.Common.{◌^◌, ◌<◌, ◌≡◌, drop}
use Rattle.util.specs.Some.{some_of}
use Rattle.burst_input.specs.Decimal.{no_digit, number_of}
use Rattle.burst_input.proofs.decimal.read.Given as goal

abbrev pub invariant-loop-byte : goal.invariant-loop-byte
invariant-loop-byte l =
    (l.sum ≡ number_of l.word l.byte-index) × (l.sum < 2 ^ 64) × (some_of no_digit (drop l.byte-index l.word) ≡ some_of no_digit l.word)
