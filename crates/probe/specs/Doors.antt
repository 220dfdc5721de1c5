-- The lengths at which the doors to the receiving interleavers answer, and what a door to a float gives where there is no answer.
use Rattle.std.specs.Prelude.{ℕ, ◌*◌, ◌/◌, Bool, false, ◌&&◌, eqb, leb, pos, Float}
use Rattle.std.specs.Float.{fin}
use Rattle.interleave.specs.Sending.{slots_for}

-- up to 10,240 bits, and their slots
abbrev pub bits_fit : ℕ → ℕ → Bool
bits_fit slots bits = leb bits 10240 && eqb slots (slots_for bits)

-- up to 2,048 symbols of 32 metrics, in and out
abbrev pub symbols_fit : ℕ → ℕ → Bool
symbols_fit slots out = leb (out / 32) 2048 && (eqb out (32 * (out / 32)) && eqb slots (32 * (out / 32)))

-- 2^32
abbrev pub no_answer : Float
no_answer = fin false 1 (pos 32)
