-- One turn of `whole_root`: a digit that is set, and one that is not. Assumes nothing.
use Prim.Native.Nat.{ℕ, zero, suc, ◌+◌, ◌*◌, ◌-◌, ◌/◌, ◌<◌, ◌≤◌}
use mathlib.Core.Path.{◌≡◌, ap, ◌∙◌}
use native.Mathlib.Omega.{arith}
use borrow.Author.Tests.{lt-ltb, le-ltb}
use Rattle.util.proofs.Choose.{chosen, not_chosen}
use Rattle.root.specs.Root.{digits}

back : (k : ℕ) → k ≡ suc k - 1
back k = omega arith

pub set : (k w t m : ℕ) → 0 < k → (m + w) * (m + w) < t + (m + w) → digits k w t m ≡ digits (k - 1) (w / 2) t (m + w)
unfolding digits
set zero w t m l h = absurd (omega arith)
set (suc k) w t m l h =
    ap (digits k (w / 2) t) (chosen (m + w) m (lt-ltb ((m + w) * (m + w)) (t + (m + w)) h)) ∙ ap (λ (i : ℕ). digits i (w / 2) t (m + w)) (back k)

pub unset : (k w t m : ℕ) → 0 < k → t + (m + w) ≤ (m + w) * (m + w) → digits k w t m ≡ digits (k - 1) (w / 2) t m
unfolding digits
unset zero w t m l h = absurd (omega arith)
unset (suc k) w t m l h =
    ap (digits k (w / 2) t) (not_chosen (m + w) m (le-ltb ((m + w) * (m + w)) (t + (m + w)) h)) ∙ ap (λ (i : ℕ). digits i (w / 2) t m) (back k)

pub ended : (k w t m : ℕ) → k ≡ 0 → digits k w t m ≡ m
unfolding digits
ended k w t m e = ap (λ (i : ℕ). digits i w t m) e
