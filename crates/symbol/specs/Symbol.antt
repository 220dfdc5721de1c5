-- Document 01, 'Metrics and soft bits', and document 02, #102: what is made of the 32 values of a symbol.
use Rattle.std.specs.Prelude.{ℕ, zero, suc, ◌+◌, ◌*◌, ◌/◌, ◌%◌, ◌^◌, Bool, false, eqb, ltb, negsuc, Float}
use Rattle.std.specs.Float.{fin, binary32}
use Rattle.std.specs.Float.Ieee.{sub, div, lt}
use Rattle.util.specs.Choose.{choose}
use Rattle.util.specs.Gray.{gray_of}
use Rattle.ieee.specs.Whole.{run}
use Rattle.ieee.specs.Within.{larger, clamp}
use Rattle.lse.specs.Lse.{float32, negative, minus_infinity, lse_of}

-- document 02, #102: in layout k a symbol is erased exactly when 2·blanked > (6k+1)·window; at k = 1 that is document 01's
-- 2·blanked > 7·window
unfoldable pub erased_of : ℕ → ℕ → ℕ → Bool
erased_of k window blanked = ltb ((6 * k + 1) * window) (2 * blanked)

-- the audio samples behind a sample of the baseband, which takes one of 6k (rx.rs, `blanked_frac`: 2 * (dec / 2) + 1)
unfoldable pub span_of : ℕ → ℕ
span_of k = 2 * (6 * k / 2) + 1

-- the Rust's `blanked_frac` (rx.rs): blanked samples over those behind a symbol, each number an f32 before they are divided
unfoldable pub blanked_frac : ℕ → ℕ → ℕ → Float
blanked_frac k window blanked = div binary32 (float32 blanked) (float32 (window * span_of k))

-- 0.5, the Rust's BLANK_ERASE (rx/data.rs)
abbrev pub one_half : Float
one_half = fin false 1 (negsuc 0)

-- the Rust's test for erasure: `blanked_frac` above it
unfoldable pub mostly_blanked : ℕ → ℕ → ℕ → Bool
mostly_blanked k window blanked = lt one_half (blanked_frac k window blanked)

-- the greatest of 32
unfoldable pub greatest_of : (ℕ → Float) → Float
greatest_of values = run larger (values 0) values 32

-- metric out: value less the greatest of 32, not below -40
unfoldable pub metric_out : (ℕ → Float) → ℕ → Float
metric_out values v = larger (sub binary32 (values v) (greatest_of values)) (negative 40)

-- the log-sum, from v = 0 up, of those of n values whose bit is b; an empty one is minus infinity
unfoldable pub log_sum : (ℕ → ℕ) → ℕ → (ℕ → Float) → ℕ → Float
log_sum bit b values zero = minus_infinity
log_sum bit b values (suc v) = choose (eqb (bit v) b) (lse_of (log_sum bit b values v) (values v)) (log_sum bit b values v)

-- bit k of a value, or of its Gray code
abbrev pub bit_of : Bool → ℕ → ℕ → ℕ
bit_of gray k v = choose gray (gray_of v) v / 2 ^ k % 2

-- soft bit: log-sum of values with bit 0 less that with bit 1, held to -12..12
unfoldable pub soft_bit : Bool → ℕ → (ℕ → Float) → Float
soft_bit gray k values =
    clamp (negative 12) (float32 12) (sub binary32 (log_sum (bit_of gray k) 0 values 32) (log_sum (bit_of gray k) 1 values 32))
