-- What the second refusal leaves: terms and areas of a header's lengths. Assumes nothing.
use Prim.Native.Nat.{ℕ, ◌*◌}
use mathlib.Core.Bool.{Bool, true, ◌&&◌, and-eq-true_iff}
use mathlib.Core.List.{List}
use mathlib.Core.Path.{◌≡◌}
use borrow.Author.Tests.{eqb-true}
use lib.Dec.{eqb}
use lib.Ieee.{Float}
use lib.ListN.{length}
use Rattle.frame.specs.Format.{header_bits}
use Rattle.header.specs.Read.{Room, areas, lengths_right}

-- the two parts of a test
first : (a b : Bool) → (a && b) ≡ true → a ≡ true
first a b e = ((and-eq-true_iff a b).0 e).0

rest : (a b : Bool) → (a && b) ≡ true → b ≡ true
rest a b e = ((and-eq-true_iff a b).0 e).1

module _ (kind terms : ℕ) (scores next start : List Float) (decisions : List ℕ)
    (right : lengths_right kind terms (length scores) (length next) (length start) (length decisions) ≡ true) where
  pub terms-right : terms ≡ header_bits kind * 260
  terms-right = eqb-true _ _ (first _ _ right)

  pub room-right : Room kind (areas scores next start decisions)
  room-right =
      let two = rest (eqb terms (header_bits kind * 260)) _ right in
      let three = rest (eqb (length scores) 16384) _ two in
      let four = rest (eqb (length next) 16384) _ three in
      record {
        of-scores = eqb-true _ _ (first _ _ two);
        of-next = eqb-true _ _ (first _ _ three);
        of-start = eqb-true _ _ (first _ _ four);
        of-decisions = eqb-true _ _ (rest (eqb (length start) 16384) _ four);
      }
