-- Document 02, #103 and #107: which values a slip holds.
use Rattle.std.specs.Prelude.{ℕ, ◌^◌, Bool, ◌&&◌, eqb, leb, ltb}
use Rattle.std.specs.Float.{binary32}
use Rattle.std.specs.Float.Ieee.{fits}
use Rattle.std.specs.Float.Ieee.Scale.{finite}
use Rattle.util.specs.Choose.{choose}
use Rattle.frame.specs.Format.{named, header_bits}
use Rattle.slip.specs.declared.Fields.{Fields}

-- 0 Sure with its pass, 1 to 3; 1 Kept and 2 Open with 0; 3 Likely with its pass, 2 or 3
unfoldable pub pass_goes : ℕ → ℕ → Bool
pass_goes outcome pass =
    choose (eqb outcome 0) (leb 1 pass && leb pass 3) (choose (eqb outcome 3) (leb 2 pass && leb pass 3) (leb outcome 2 && eqb pass 0))

-- mode and kind are named; the word has zeros above its 48 or 64 bits; the pass goes with the outcome, by a rule; the score is a finite
-- f32; start and segment are numbers of eight bytes and of two
abbrev pub lawful_by : (ℕ → ℕ → Bool) → Fields → Bool
lawful_by goes f =
    named f.mode f.kind
    && (ltb f.word (2 ^ header_bits f.kind)
    && (goes f.outcome f.pass
    && ((fits binary32 f.score && finite f.score)
    && (ltb f.start (2 ^ 64) && ltb f.segment (2 ^ 16)))))

unfoldable pub lawful : Fields → Bool
lawful f = lawful_by pass_goes f

-- ---- the slips of before #107

-- #103's own rule: 0 Sure with its pass, 1 to 3; 1 Kept and 2 Open with 0
unfoldable pub pass_went : ℕ → ℕ → Bool
pass_went outcome pass = choose (eqb outcome 0) (leb 1 pass && leb pass 3) (leb outcome 2 && eqb pass 0)

abbrev pub older : Fields → Bool
older f = lawful_by pass_went f
