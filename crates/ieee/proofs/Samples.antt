-- The laws' conditions are needed: what fails past each bound, by computing. Assumes nothing.
use mathlib.Core.Path.{◌≡◌, refl}
use lib.IntN.{pos}
use mathlib.Core.Bool.{true, false}
use lib.Ieee.{fin, binary32, add}

-- past 2 ^ 24 a sum is no longer exact: 16,777,216 + 1 is 16,777,216
past-the-bound : add binary32 (fin false 1 (pos 24)) (fin false 1 (pos 0)) ≡ fin false 1 (pos 24)
unfolding add
past-the-bound = refl

-- -0.0 + -0.0 is -0.0, so a sum has to start from 0.0
two-minus-zeros : add binary32 (fin true 0 (pos 0)) (fin true 0 (pos 0)) ≡ fin true 0 (pos 0)
unfolding add
two-minus-zeros = refl
