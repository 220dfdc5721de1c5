-- From one slot to the next: (a·(p + 1)) mod n is a further than (a·p) mod n, less n where that is n or more, and a is
-- at most n. Assumes nothing.
use Prim.Native.Nat.{ℕ, zero, suc, ◌+◌, ◌-◌, ◌*◌, ◌%◌, ◌≤◌, ◌<◌}
use mathlib.Core.Path.{◌≡◌, sym, ap, ◌∙◌}
use native.Mathlib.Nat.{zero-mod, mod-eq_of_lt, mod-add-mod, mod-eq-sub-mod, mul-zero}
use native.Mathlib.Omega.{arith}
use Rattle.util.specs.Multiplier.{mult_of}
use Rattle.util.proofs.Found.{found}
use Rattle.frame.specs.Air.{slot_of}

-- the multiplier is no greater than n
pub mult-most : (n : ℕ) → 0 < n → mult_of n ≤ n
unfolding mult_of
mult-most zero h = absurd (omega arith)
mult-most (suc zero) h = omega arith
mult-most (suc (suc zero)) h = omega arith
mult-most (suc (suc (suc n))) h = omega (arith, (found (suc (suc (suc n))) (omega arith)).below)

pub slot-first : (n : ℕ) → 0 ≡ slot_of n 0
unfolding slot_of
slot-first n = sym (ap (λ (x : ℕ). x % n) (mul-zero (mult_of n)) ∙ zero-mod n)

pub slot_next : (n p s : ℕ) → s ≡ slot_of n p → (s + mult_of n) % n ≡ slot_of n (p + 1)
unfolding slot_of
slot_next n p s e =
    let more : mult_of n * p + mult_of n ≡ mult_of n * (p + 1) = omega arith in
    ap (λ (x : ℕ). (x + mult_of n) % n) e ∙ mod-add-mod (mult_of n * p) n (mult_of n) ∙ ap (λ (x : ℕ). x % n) more

-- a sum below twice n, modulo n
pub wrapped : (n t : ℕ) → n ≤ t → t < n + n → t - n ≡ t % n
wrapped n t h l = let low : t - n < n = omega arith in sym (mod-eq-sub-mod h ∙ mod-eq_of_lt low)
