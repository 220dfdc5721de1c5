-- `wire::put` meets its contract: a turn writes the last of the bytes that are still to write. Assumes nothing.
use Prim.Native.Nat.{ℕ, zero, suc, ◌+◌, ◌-◌, ◌/◌, ◌%◌, ◌≤◌, ◌<◌}
use mathlib.Core.List.{List, ◌∷◌, ◌++◌}
use mathlib.Core.Path.{◌≡◌, refl, sym, ap, ap₂, ◌∙◌}
use native.Mathlib.Nat.{add-zero, add-suc, not-suc-le-zero, le_refl}
use native.Mathlib.Numerals.{sub-one}
use native.Mathlib.Omega.{arith}
use lib.ListN.{length, take, drop, set, length-set, take-append-drop}
use lib.Seq.{slice, slice-cons, get_or-set_same, take-set-le, take-set-lt, drop-set-lt, append_snoc, take-take}
use Rattle.wire.specs.Bytes.{big}
use Rattle.wire.proofs.put.Goals as goal

-- after a store at j the part from j on begins with what was stored
stored : (l : List ℕ) (j to b : ℕ) → j < to → to ≤ length l → slice j to (set l j b) ≡ b ∷ slice (suc j) to l
stored l j to b h room =
    slice-cons j to (set l j b) 0 h (omega (arith, length-set l j b))
    ∙ ap₂ ◌∷◌ (get_or-set_same l j b 0 (omega arith))
    (ap (drop (suc j)) (take-set-lt to l j b h) ∙ drop-set-lt (suc j) (take to l) j b (le_refl (suc j)))

-- a turn moves the last of the bytes that are still to write to the front of those that are written
turn : (out : List ℕ) (at i width rest b : ℕ) → 0 < i → i ≤ width → at + width ≤ length out → b ≡ rest % 256
    → big (i - 1) (rest / 256) ++ slice (at + (i - 1)) (at + width) (set out (at + (i - 1)) b) ≡ big i rest ++ slice (at + i) (at + width) out
unfolding big
turn out at zero width rest b some h room e = absurd (not-suc-le-zero some)
turn out at (suc j) width rest b some h room e =
    let front = big j (rest / 256) in
    ap (λ (m : ℕ). big m (rest / 256) ++ slice (at + m) (at + width) (set out (at + m) b)) (sub-one (suc j))
    ∙ ap (λ (l : List ℕ). front ++ l) (stored out (at + j) (at + width) b (omega arith) room)
    ∙ ap₂ (λ (x n : ℕ). front ++ x ∷ slice n (at + width) out) e (sym (add-suc at j))
    ∙ sym (append_snoc front (rest % 256) (slice (at + suc j) (at + width) out))

-- a list's beginning, in two parts
parts : (at width : ℕ) (l : List ℕ) → take (at + width) l ≡ take at l ++ slice (at + 0) (at + width) l
parts at width l =
    sym (take-append-drop at (take (at + width) l))
    ∙ ap₂ (λ (p : List ℕ) (n : ℕ). p ++ slice n (at + width) l) (take-take at (at + width) l (omega arith)) (sym (add-zero at))

pub loop-i-preserved : goal.loop-i-preserved
loop-i-preserved c =
    let l = c.loop-i in
    let a = c.args in (
      simp length-set l.invariant.0,
      omega arith,
      take-set-le a.at l.out (a.at + (l.i - 1)) _ (omega arith) ∙ l.invariant.2,
      turn l.out a.at l.i a.width l.rest _ c.loop-i-test.true l.invariant.1 (omega arith) refl ∙ l.invariant.3,
    )

pub returns-clause-bytes : goal.returns-clause-bytes
unfolding big
returns-clause-bytes c =
    let l = c.loop-i in
    let a = c.args in
    let none : 0 ≡ l.i = omega arith in parts a.at a.width l.out
    ∙ ap₂ ◌++◌ l.invariant.2 (ap (λ (i : ℕ). big i l.rest ++ slice (a.at + i) (a.at + a.width) l.out) none ∙ l.invariant.3)
