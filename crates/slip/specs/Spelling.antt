-- Document 02, #103: how a slip is spelt. A field is a one-byte tag, a two-byte length with the high byte first, then the value;
-- numbers have the high byte first.
use Rattle.std.specs.Prelude.{ℕ, List, ◌++◌, Float, length}
use Rattle.std.specs.Float.{binary32}
use Rattle.std.specs.Float.Ieee.{to_bits}
use Rattle.wire.specs.Bytes.{big}
use Rattle.slip.specs.declared.Fields.{Fields}

unfoldable pub field : ℕ → List ℕ → List ℕ
field tag value = big 1 tag ++ big 2 (length value) ++ value

-- the outcome's value: a byte (0 Sure, 1 Kept, 2 Open, 3 Likely), the pass, and the score's four bytes
unfoldable pub outcome_value : ℕ → ℕ → Float → List ℕ
outcome_value outcome pass score = big 1 outcome ++ big 1 pass ++ big 4 (to_bits binary32 score)

-- tag 1 mode, 2 kind, 3 word, 4 outcome, 5 start sample, 6 segment number: all six once, tags rising
unfoldable pub spell : Fields → List ℕ
spell f =
    field 1 (big 1 f.mode)
    ++ field 2 (big 1 f.kind)
    ++ field 3 (big 8 f.word)
    ++ field 4 (outcome_value f.outcome f.pass f.score)
    ++ field 5 (big 8 f.start)
    ++ field 6 (big 2 f.segment)
