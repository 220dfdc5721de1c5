-- The second entry's refusals: the first number of the order whose cause holds; and 16 exactly where the mode, the kind and the six lengths
-- are right and an entry of the table is off the parity rule. Assumes nothing.
use Prim.Native.Nat.{ℕ, ◌<◌}
use mathlib.Core.Bool.{Bool, true, false, not}
use mathlib.Core.List.{List}
use mathlib.Core.Path.{◌≡◌, refl}
use native.Mathlib.Omega.{arith}
use borrow.Author.Tests.{not-false}
use lib.Ieee.{Float}
use lib.ListN.{get_or}
use Rattle.util.specs.Choose.{choose}
use Rattle.util.specs.Refusal.{refused, accepted, First}
use Rattle.util.proofs.First.{first}
use Rattle.util.proofs.Choose.{past-other, not-refused}
use Rattle.frame.specs.Format.{named}
use Rattle.conv.specs.Label.{label_of}
use Rattle.model.specs.Range.{some_out}
use Rattle.labels.specs.Labels.{labelled}
use Rattle.labels.proofs.Kept.{off, some-off}
use Rattle.trellis.specs.Terms.{document_search}
use Rattle.header.specs.Read.{Areas}
use Rattle.header_with.specs.With.{six_lengths, causes, header_read_with}

-- 16 is answered only where it holds: what comes after it is 6 or no refusal
off-there : {A : Type 0} (kept out : Bool) (x : A) → choose (not kept) (refused 16) (choose out (refused 6) (accepted x)) ≡ refused 16 → kept ≡ false
off-there false out x e = refl
off-there true out x e = absurd (not-refused x 16 (past-other out 6 16 (accepted x) (λ z. omega arith) e).1)

module _ (mode kind : ℕ) (terms : List Float) (labels : List ℕ) (w : Areas) where
  pub with_first : (k : ℕ) → header_read_with mode kind terms labels w ≡ refused k → First k (causes mode kind terms labels w)
  with_first k e = first (causes mode kind terms labels w) (document_search mode kind terms) k refl e

  pub sixteen : named mode kind ≡ true → six_lengths kind terms labels w ≡ true → (r : ℕ) → r < 32768 → (get_or labels r 0 ≡ label_of r → ⊥)
      → header_read_with mode kind terms labels w ≡ refused 16
  sixteen there right r h other = simp (there, right, off labels r h other)

  pub sixteen-only : header_read_with mode kind terms labels w ≡ refused 16
      → (named mode kind ≡ true) × (six_lengths kind terms labels w ≡ true) × ((r : ℕ) × (r < 32768) × (get_or labels r 0 ≡ label_of r → ⊥))
  sixteen-only e =
      let one = past-other (not (named mode kind)) 1 16 _ (λ z. omega arith) e in
      let two = past-other (not (six_lengths kind terms labels w)) 4 16 _ (λ z. omega arith) one.1 in
      (not-false _ one.0, not-false _ two.0, some-off labels (off-there (labelled labels) (some_out terms) (document_search mode kind terms) two.1))
