-- Exact values: a float in units of a power of two, and one that is some units off. Definitions only. Assumes nothing.
use Rattle.std.specs.Prelude.{◌≡◌, Bool, ℕ, ◌*◌, ◌^◌, ◌≤◌, ℤ, nat_abs, ◌+ℤ◌, Float}
use Rattle.std.specs.Float.{fin}
use Rattle.std.specs.Float.Ieee.{up, down}
use Rattle.ieee.specs.Whole.{signed}

-- The float is z units of 2 ^ -j, exactly: m * 2 ^ e is k of them, and the sign is s. With j = 149 every finite f32 is such a number.
pub data Units (j : ℕ) : Float → ℤ → Type 0 where
  units : (s : Bool) (m : ℕ) (e : ℤ) (k : ℕ) → m * up e * 2 ^ j ≡ k * down e → Units j (fin s m e) (signed s k)

-- The float is z units of 2 ^ -j but for at most d of them: z and `off` more.
pub record Near (j d : ℕ) (x : Float) (z : ℤ) : Type 0 where
  pub off : ℤ
  pub is : Units j x (z +ℤ off)
  pub small : nat_abs off ≤ d
