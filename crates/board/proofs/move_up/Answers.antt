-- `board::move_up` meets its contract: the copy reaches the part's end. Assumes nothing.
use Prim.Native.Nat.{ℕ, ◌+◌, ◌-◌, ◌≤◌}
use mathlib.Core.List.{List, ◌++◌, append-nil}
use mathlib.Core.Path.{◌≡◌, ap, ap₂, ◌∙◌}
use native.Mathlib.Nat.{le_refl}
use native.Mathlib.Omega.{arith}
use lib.ListN.{length, take, drop, drop_of_length-le}
use Rattle.board.proofs.move_up.Goals as goal

moved : (l : List ℕ) → 44 ≤ length l
    → take 44 l ++ take (length l - 44 - 0) l ++ drop (44 + (length l - 44 - 0)) l ≡ take 44 l ++ take (length l - 44) l
moved l h =
    let many : length l - 44 - 0 ≡ length l - 44 = omega arith in
    let end : 44 + (length l - 44 - 0) ≡ length l = omega arith in
    ap₂ (λ (n m : ℕ). take 44 l ++ take n l ++ drop m l) many end
    ∙ ap (λ (r : List ℕ). take 44 l ++ take (length l - 44) l ++ r) (drop_of_length-le l (le_refl (length l)))
    ∙ append-nil (take 44 l ++ take (length l - 44) l)

pub returns : goal.returns
returns c = c.copy_within.ensures.after ∙ moved c.args.part.now c.requires
