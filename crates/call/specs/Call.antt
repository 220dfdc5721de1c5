-- Document 01, 'Drift': one call of the tracker, what it makes and what it stores. The order of the operations is the Rust's (`track_timing`).
use Rattle.std.specs.Prelude.{ℕ, ◌+◌, ◌-◌, ◌*◌, List, Option, Some, None, ltb, eqb, ℤ, pos, ◌+ℤ◌, ◌-ℤ◌, get_or, set, Float}
use Rattle.std.specs.Float.{binary64}
use Rattle.std.specs.Float.Ieee.{of_int, neg, lt}
use Rattle.ieee.specs.Whole.{plus_zero, run}
use Rattle.ieee.specs.Within.{larger, clamp}
use Rattle.util.specs.Choose.{choose}
use Rattle.frame.specs.Format.{format_of}
use Rattle.blocks.specs.Doubles.{◌⊕◌, ◌⊖◌, ◌⊗◌, ◌⊘◌, as_f64, fraction}
use Rattle.blocks.specs.declared.Block.{Block}
use Rattle.fit.specs.Fit.{fit_blocks}
use Rattle.tracker.specs.Rule.{block_length, waiting}
use Rattle.tracker.specs.declared.Tracker.{Tracker}
use Rattle.tracker.specs.declared.Sample.{Sample}
use Rattle.tracker.specs.declared.Sample.TheVariants.{Heard, Missed}
use Rattle.call.specs.declared.Moved.{Moved}

-- Heard adds late - early, and the mean energy less the noise where that is above 0; Missed adds nothing
abbrev pub num_after : Tracker → Sample → Float
num_after t (Heard early late noise) = t.tnum ⊕ (late ⊖ early)
num_after t Missed = t.tnum

abbrev pub den_after : Tracker → Sample → Float
den_after t (Heard early late noise) = t.tden ⊕ larger (fraction 1 2 ⊗ (late ⊕ early) ⊖ noise) plus_zero
den_after t Missed = t.tden

-- the mean of the block's stored shifts: it starts at symbol `first`
abbrev pub mean_shift : ℕ → List ℤ → ℕ → Float
mean_shift mode stored first =
    of_int binary64 (run ◌+ℤ◌ (pos 0) (λ j. get_or stored (first + j) (pos 0)) (block_length mode)) ⊘ as_f64 (block_length mode)

-- the early-late gate's misalignment, held to ±32
abbrev pub mis_of : ℕ → Float → Float → Float
mis_of mode num den = clamp (neg (as_f64 32)) (as_f64 32) (as_f64 ((format_of mode).symbol - 16) ⊘ as_f64 4 ⊗ num ⊘ den)

-- the block whose last symbol is i: its first is i + 1 - block length
abbrev pub block_of : ℕ → List ℤ → ℕ → Float → Float → Block
block_of mode stored i num den =
    record { place2 = 2 * i + 1 - block_length mode; timing = mean_shift mode stored (i + 1 - block_length mode) ⊕ mis_of mode num den }

-- the shift follows the line, one sample at a time
abbrev pub shift_after : ℤ → Float → ℤ
shift_after z target =
    choose (lt (of_int binary64 z ⊕ fraction 7 10) target) (z +ℤ pos 1)
    (choose (lt target (of_int binary64 z ⊖ fraction 7 10)) (z -ℤ pos 1) z)

-- A call makes the next tracker, and a block, if it pushes one (`Moved`).
-- The tracker after call c = n + 1, with the sums, the drift and the count that hold then
abbrev pub followed : Tracker → Float → Float → Float → ℕ → Tracker
followed t num den drift count =
    record { n = t.n + 1; shift = shift_after t.shift (drift ⊗ as_f64 (t.n + 1)); tnum = num; tden = den; drift = drift; blocks = count }

-- no block pushed
abbrev pub unpushed : Tracker → Moved
unpushed t = record { tracker = t; pushed = None }

-- where the block ends: pushed if something was heard, and both sums start again
abbrev pub ended : Tracker → Float → Block → (Block → Float) → Moved
ended t den b fitted =
    choose (lt plus_zero den)
    (record { tracker = followed t plus_zero plus_zero (fitted b) (t.blocks + 1); pushed = Some b })
    (unpushed (followed t plus_zero plus_zero t.drift t.blocks))

-- call c = n + 1 from 3 on judges symbol c - 3, with the sums that hold then. `fitted b` is the drift with block b pushed.
unfoldable pub judged_of : ℕ → Tracker → List ℤ → Float → Float → (Block → Float) → Moved
judged_of mode t stored num den fitted =
    choose (eqb (waiting mode t.n + 1) (block_length mode))
    (ended t den (block_of mode stored (t.n - 2) num den) fitted)
    (unpushed (followed t num den t.drift t.blocks))

-- for c < 3 no more happens than that the call is counted
unfoldable pub moved : ℕ → Tracker → List ℤ → Sample → (Block → Float) → Moved
moved mode t stored s fitted =
    choose (ltb (t.n + 1) 3)
    (unpushed (record { n = t.n + 1; shift = t.shift; tnum = t.tnum; tden = t.tden; drift = t.drift; blocks = t.blocks }))
    (judged_of mode t stored (num_after t s) (den_after t s) fitted)

-- the call stores the present shift first
abbrev pub stored_of : Tracker → List ℤ → List ℤ
stored_of t shifts = set shifts t.n t.shift

-- the drift of the listed blocks and b
abbrev pub fitted_of : ℕ → Tracker → List Block → Block → Float
fitted_of mode t blocks b = fit_blocks (format_of mode).symbol (t.blocks + 1) (set blocks t.blocks b)

abbrev pub call : ℕ → Tracker → List ℤ → List Block → Sample → Moved
call mode t shifts blocks s = moved mode t (stored_of t shifts) s (fitted_of mode t blocks)

-- a block, if there is one, at a place of a list
abbrev pub put_at : List Block → ℕ → Option Block → List Block
put_at bs at None = bs
put_at bs at (Some b) = set bs at b

abbrev pub pushed_onto : Tracker → List Block → Moved → List Block
pushed_onto t blocks r = put_at blocks t.blocks r.pushed
