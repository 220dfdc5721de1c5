-- Soft values are refused by the first number of the order whose cause holds.
-- Assumes nothing.
use Prim.Native.Nat.{ℕ}
use mathlib.Core.Bool.{true}
use mathlib.Core.Path.{◌≡◌, refl, sym, ◌∙◌}
use Rattle.util.specs.Refusal.{refused, First, NoneBelow}
use Rattle.util.proofs.First.{first}
use Rattle.frame.specs.Format.{layout_named}
use Rattle.soft.specs.Entry.{Asked, causes, soft_answer}
use Rattle.soft.specs.Base.{base_causes}
use Rattle.soft.proofs.FullBand.{answer-named}

pub soft-first : (a : Asked) (k : ℕ) → soft_answer a ≡ refused k → First k (causes a)
soft-first a k e = first (causes a) tt k refl e

-- and in a named layout by the lowest of document 01's, as it says: their numbers rise
pub soft-lowest : (a : Asked) (k : ℕ) → layout_named a.layout ≡ true → soft_answer a ≡ refused k → NoneBelow k (base_causes a)
soft-lowest a k known e = (first (base_causes a) tt k refl (sym (answer-named a known) ∙ e)).lowest refl
