-- Document 01, refusal 6: a term not finite or beyond ±1,000,000. A NaN is out of any range.
use Rattle.std.specs.Prelude.{Bool, true, false, not, ◌&&◌, List, pos, Float}
use Rattle.std.specs.Float.{fin}
use Rattle.std.specs.Float.Ieee.{le}
use Rattle.util.specs.Some.{some_of}

-- 1,000,000 = 15,625 · 2^6, with a sign
abbrev pub million : Bool → Float
million s = fin s 15625 (pos 6)

abbrev pub out_of_range : Float → Bool
out_of_range t = not (le (million true) t && le t (million false))

-- some term is
abbrev pub some_out : List Float → Bool
some_out terms = some_of out_of_range terms
