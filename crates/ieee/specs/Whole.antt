-- Floats that are whole numbers, the two zeros, and sums from the left. Definitions only. Assumes nothing.
use Rattle.std.specs.Prelude.{◌≡◌, Bool, true, false, ◌&&◌, ℕ, zero, suc, ◌*◌, ℤ, pos, neg_ℤ, eqb, Float}
use Rattle.std.specs.Bool.{beq}
use Rattle.std.specs.Float.{nan, inf, fin}
use Rattle.std.specs.Float.Ieee.{up, down}

-- 0.0
abbrev pub plus_zero : Float
plus_zero = fin false 0 (pos 0)

-- x is -0.0 (s true), or 0.0 (s false)
abbrev pub is_zero : Bool → Float → Bool
is_zero s nan = false
is_zero s (inf t) = false
is_zero s (fin t m e) = beq s t && eqb m 0

-- k with a sign; a zero has none
abbrev pub signed : Bool → ℕ → ℤ
signed false k = pos k
signed true k = neg_ℤ (pos k)

-- The float is this whole number: m * 2 ^ e is k, and the sign is s. Either zero is 0; a NaN and the infinities are no whole numbers.
pub data Whole : Float → ℤ → Type 0 where
  whole : (s : Bool) (m : ℕ) (e : ℤ) (k : ℕ) → m * up e ≡ k * down e → Whole (fin s m e) (signed s k)

-- a, then x 0, x 1 and so on to x (n - 1), from the left: with the float's `add` a sum rounded at each step, with the integers' the sum itself
unfoldable pub run : {A : Type 0} → (A → A → A) → A → (ℕ → A) → ℕ → A
run op a x zero = a
run op a x (suc n) = op (run op a x n) (x n)
