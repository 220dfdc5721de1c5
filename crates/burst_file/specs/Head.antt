-- docs/BURST-FORMAT.md: what the first 20 bytes of a burst file say.
use Rattle.std.specs.Prelude.{ℕ, ◌/◌, not, List, eqb, ltb, get_or, Result, Ok, Err}
use Rattle.util.specs.Choose.{choose}
use Rattle.frame.specs.Format.{format_of, named, layout_named, listed}
use Rattle.burst_file.specs.Numbers.{word_at}
use Rattle.util.specs.declared.refusal.Refusal.TheVariants.{Unnamed, TooMany, Window, Layout}
use Rattle.burst_file.specs.declared.format.Head.{Head}
use Rattle.burst_file.specs.declared.format.Problem.{Problem}
use Rattle.burst_file.specs.declared.format.Problem.TheVariants.{Magic, Version, Form, Zeros, Refused}

-- of the four bytes from 8 on, what must be 0: in version 0 all of them, in version 1 all but the first, which is the layout
unfoldable pub unused_of : ℕ → ℕ → ℕ
unused_of version four = choose (eqb version 0) four (four / 256)

-- a burst of version 0 is of layout 1
unfoldable pub layout_of : ℕ → ℕ → ℕ
layout_of version byte = choose (eqb version 0) 1 byte

-- the fields, by the papers' first four refusals; form 1 is symbols
unfoldable pub fields_of : ℕ → ℕ → ℕ → ℕ → ℕ → ℕ → Result Head Problem
fields_of mode kind layout form window bits =
    choose (not (named mode kind)) (Err (Refused Unnamed))
    (choose (not (layout_named layout)) (Err (Refused Layout))
    (choose (ltb 10240 bits) (Err (Refused TooMany))
    (choose (not (listed window (format_of mode).windows)) (Err (Refused Window))
    (Ok (record { mode = mode; kind = kind; layout = layout; symbols = eqb form 1; window = window; bits = bits })))))

-- IONB with its first letter lowest, version 0 or 1, form 0 or 1, zeros: the first that is not so is told
unfoldable pub head_of : List ℕ → Result Head Problem
head_of s =
    choose (not (eqb (word_at s 0) 0x424E4F49)) (Err Magic)
    (choose (ltb 1 (get_or s 4 0)) (Err Version)
    (choose (ltb 1 (get_or s 7 0)) (Err Form)
    (choose (not (eqb (unused_of (get_or s 4 0) (word_at s 8)) 0)) (Err Zeros)
    (fields_of (get_or s 5 0) (get_or s 6 0) (layout_of (get_or s 4 0) (get_or s 8 0)) (get_or s 7 0) (word_at s 12) (word_at s 16)))))
