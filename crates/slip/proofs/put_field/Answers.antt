-- `slip::put_field` meets its contract: tag, length and value one after the other. Assumes nothing.
use Prim.Native.Nat.{ℕ, ◌+◌}
use mathlib.Core.List.{List, ◌++◌, append_assoc}
use mathlib.Core.Path.{◌≡◌, sym, ap, ◌∙◌}
use native.Mathlib.Omega.{arith}
use lib.ListN.{take}
use Rattle.wire.specs.Bytes.{big}
use Rattle.wire.proofs.Bytes.{length-big}
use Rattle.slip.specs.Spelling.{field}
use Rattle.slip.proofs.put_field.Goals as goal

-- three parts behind what was there
behind : (was one two three a b v : List ℕ) → one ≡ was ++ a → two ≡ one ++ b → three ≡ two ++ v → three ≡ was ++ (a ++ b ++ v)
behind was one two three a b v e f g =
    g ∙ ap (λ (l : List ℕ). l ++ v) (f ∙ ap (λ (l : List ℕ). l ++ b) e ∙ append_assoc was a b) ∙ append_assoc was (a ++ b) v

spelt : (was one two three : List ℕ) (at tag width value : ℕ) → take (at + 1) one ≡ take at was ++ big 1 tag
    → take (at + 1 + 2) two ≡ take (at + 1) one ++ big 2 width
    → take (at + 3 + width) three ≡ take (at + 3) two ++ big width value → take (at + 3 + width) three ≡ take at was ++ field tag (big width value)
unfolding field
spelt was one two three at tag width value e f g =
    let third : at + 1 + 2 ≡ at + 3 = omega arith in
    behind (take at was) (take (at + 1) one) (take (at + 3) two) (take (at + 3 + width) three) (big 1 tag) (big 2 width) (big width value) e
    (ap (λ (n : ℕ). take n two) (sym third) ∙ f) g
    ∙ ap (λ (n : ℕ). take at was ++ (big 1 tag ++ big 2 n ++ big width value)) (sym (length-big width value))

pub returns-clause-bytes : goal.returns-clause-bytes
returns-clause-bytes c =
    let a = c.args in
    let one = c.put.ensures in
    let two = c.put-2.ensures in
    let three = c.put-3.ensures in
    spelt a.out.now _ _ _ a.at a.tag a.width a.value one.bytes two.bytes three.bytes
