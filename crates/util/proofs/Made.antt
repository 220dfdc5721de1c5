-- An array made by calls of a closure at each place in turn, where a call leaves the closure as it was. Assumes nothing.
use Prim.Native.Nat.{ℕ, zero, suc, ◌+◌, ◌≤◌, ◌<◌}
use mathlib.Core.List.{List}
use mathlib.Core.Path.{◌≡◌, sym, subst}
use native.Mathlib.Nat.{not-suc-le-zero}
use native.Mathlib.Omega.{arith}
use lib.ListN.{get_or}
use denote.Param.Members.{Mut, Called}
use Rattle.std.specs.Array.{IsFromFnResult, IsFromFnResultFrom}

module _ {F B : Type 0} (g : Mut F (ℕ × Unit {0}) B) (f : F) (P : ℕ → B → Type 0) (m : ℕ)
    (call : (k : ℕ) (y : B) (q : F) → k < m → Called g f (k, tt) y q → P k y × (q ≡ f)) where
  made-from : (ys : List B) (i n : ℕ) → i + n ≤ m → IsFromFnResultFrom g f ys i n → (k : ℕ) (d : B) → k < n → P (i + k) (get_or ys (i + k) d)
  made-from ys i zero h made k d l = absurd (not-suc-le-zero l)
  made-from ys i (suc n) h (q, y, here, called, rest) zero d l =
      let at : i ≡ i + 0 = omega arith in
      subst (λ (j : ℕ). P j (get_or ys j d)) at (subst (P i) (sym (here.1 d)) (call i y q (omega arith) called).0)
  made-from ys i (suc n) h (q, y, here, called, rest) (suc k) d l =
      let at : i + 1 + k ≡ i + suc k = omega arith in
      subst (λ (j : ℕ). P j (get_or ys j d)) at
      (made-from ys (i + 1) n (omega arith) (subst (λ (p : F). IsFromFnResultFrom g p ys (i + 1) n) (call i y q (omega arith) called).1 rest) k d (omega arith))

  pub made : {ys : List B} → IsFromFnResult g f ys m → (k : ℕ) (d : B) → k < m → P k (get_or ys k d)
  made {ys} all k d l = let at : 0 + k ≡ k = omega arith in subst (λ (j : ℕ). P j (get_or ys j d)) at (made-from ys 0 m (omega arith) all.each k d l)
