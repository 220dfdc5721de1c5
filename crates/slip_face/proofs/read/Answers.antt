-- `slip_face::read` meets its contract: the reader's answer as a number and eight places. Assumes nothing.
use Prim.Native.Nat.{ℕ}
use mathlib.Core.List.{List}
use mathlib.Core.Path.{◌≡◌, refl, sym, ap, ◌∙◌, subst}
use native.Mathlib.Omega.{arith}
use Rattle.util.specs.Refusal.{accepted, refused}
use Rattle.slip.specs.Slips.{reading, Reads}
use Rattle.slip.proofs.Slips.{reads}
use Rattle.slip.specs.declared.Fields.{Fields}
use Rattle.slip_face.specs.Face.{Told}
use Rattle.slip_face.proofs.read.Goals as goal

-- what the reader says of a string, by the number
read_told : (b : List ℕ) (f : Fields) → accepted f ≡ reading b → Told b 0 f
read_told b f e = record { read = λ z. subst (Reads b) (sym e) (reads b); refused = λ h. absurd (h refl) }

refused-told : (b : List ℕ) (k : ℕ) (f : Fields) → refused k ≡ reading b → Told b k f
refused-told b k f e =
    let why : Reads b (refused k) = subst (Reads b) (sym e) (reads b) in
    record { read = λ z. absurd (omega (arith, why.0, z)); refused = λ h. why }

pub returns-in-Ok-clause-single : goal.returns-in-Ok-clause-single
returns-in-Ok-clause-single c = read_told _ _ c.in-Ok.ensures.answer

pub returns-in-Err-clause-single : goal.returns-in-Err-clause-single
returns-in-Err-clause-single c = refused-told _ _ _ (ap refused (c.from.ensures ∙ c.number.ensures) ∙ c.in-Err.ensures.answer)
