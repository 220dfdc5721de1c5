-- Document 01, 'Drift' and 'When nothing is done': the tracker, its rule, and when a call of it is refused.
use Rattle.std.specs.Prelude.{ℕ, ◌-◌, ◌*◌, ◌/◌, ◌%◌, Bool, true, not, ◌&&◌, ◌||◌, List, [], ◌∷◌, leb, ltb, eqb, ℤ, pos, nat_abs, length, get_or, Float}
use Rattle.std.specs.Float.Ieee.{le}
use Rattle.ieee.specs.Whole.{plus_zero, is_zero}
use Rattle.util.specs.Choose.{choose}
use Rattle.util.specs.Refusal.{Cause, Outcome, outcome}
use Rattle.frame.specs.Format.{format_of}
use Rattle.util.specs.Every.{every}
use Rattle.blocks.specs.Doubles.{as_f64, within}
use Rattle.blocks.specs.Blocks.{place2_at}
use Rattle.blocks.specs.declared.Block.{Block}
use Rattle.fit.specs.Fit.{limit_of, good_blocks}
use Rattle.tracker.specs.declared.Tracker.{Tracker}
use Rattle.tracker.specs.declared.Sample.{Sample}
use Rattle.tracker.specs.declared.Sample.TheVariants.{Heard, Missed}

-- nothing heard yet
abbrev pub fresh_of : Tracker
fresh_of = record { n = 0; shift = pos 0; tnum = plus_zero; tden = plus_zero; drift = plus_zero; blocks = 0 }

-- ---- the tracker rule

-- 32 for R0, 64 for R1
abbrev pub block_length : ℕ → ℕ
block_length mode = choose (eqb mode 0) 32 64

-- after n calls: max(n-2, 0) mod block length symbols wait for their block's end, and m stand in whole blocks
abbrev pub waiting : ℕ → ℕ → ℕ
waiting mode n = (n - 2) % block_length mode

abbrev pub in_whole_blocks : ℕ → ℕ → ℕ
in_whole_blocks mode n = n - 2 - waiting mode n

-- n ≤ 2,048
abbrev pub calls_kept : Tracker → Bool
calls_kept t = leb t.n 2048

-- blocks ≤ m / block length
abbrev pub count_kept : ℕ → Tracker → Bool
count_kept mode t = leb t.blocks (in_whole_blocks mode t.n / block_length mode)

-- twice-places ≤ 2m
abbrev pub places_kept : ℕ → Tracker → List Block → Bool
places_kept mode t blocks = every t.blocks (λ i. leb (place2_at blocks i) (2 * in_whole_blocks mode t.n))

-- |drift| ≤ the f64 product 0.0003·symbol
abbrev pub drift_kept : ℕ → Tracker → Bool
drift_kept mode t = within (limit_of (format_of mode).symbol) t.drift

-- tnum and tden within ±10^12, tden neither negative nor -0.0. (So what is added to tden may be a -0.0: it shows nowhere.)
abbrev pub sums_kept : Tracker → Bool
sums_kept t =
    within (as_f64 1000000000000) t.tnum && (within (as_f64 1000000000000) t.tden && (le plus_zero t.tden && not (is_zero true t.tden)))

-- the present shift and the first n stored within ±2,048, the rest not read
abbrev pub shift_kept : ℤ → Bool
shift_kept z = leb (nat_abs z) 2048

abbrev pub shifts_kept : Tracker → List ℤ → Bool
shifts_kept t shifts = shift_kept t.shift && every t.n (λ j. shift_kept (get_or shifts j (pos 0)))

-- all of it
abbrev pub rule : ℕ → Tracker → List ℤ → List Block → Bool
rule mode t shifts blocks =
    calls_kept t && (count_kept mode t && (places_kept mode t blocks && (drift_kept mode t && (sums_kept t && shifts_kept t shifts))))

-- ---- the answer of a call

-- early, late and noise in 0 to 10^9; with Missed nothing is looked at
abbrev pub energy : Float → Bool
energy x = le plus_zero x && le x (as_f64 1000000000)

abbrev pub in_range : Sample → Bool
in_range (Heard early late noise) = energy early && (energy late && energy noise)
in_range Missed = true

abbrev pub causes : ℕ → Tracker → List ℤ → List Block → Sample → List Cause
causes mode t shifts blocks s =
    (record { holds = ltb 1 mode; number = 1 })
    ∷ (record { holds = not (eqb (length shifts) 2048 && eqb (length blocks) 64); number = 4 })
    ∷ (record { holds = not (in_range s); number = 8 })
    ∷ (record { holds = eqb t.n 2048 || not (rule mode t shifts blocks); number = 9 })
    ∷ (record { holds = not (good_blocks t.blocks blocks); number = 10 })
    ∷ []

abbrev pub track_answer : ℕ → Tracker → List ℤ → List Block → Sample → Outcome Unit
track_answer mode t shifts blocks s = outcome (causes mode t shifts blocks s) tt
