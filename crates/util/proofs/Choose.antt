-- What is chosen by a test that is known; and an entry's causes passed one by one. Assumes nothing.
use Rattle.std.proofs.Common.{◌≡◌, ℕ, Bool, true, false, List, ◌∷◌, refl, ap, arith}
use mir.Val.{bool_byte}
use Rattle.util.specs.Choose.{choose}
use Rattle.util.specs.Refusal.{Cause, Outcome, refused, accepted, outcome, number}

module _ {A : Type 0} {t : Bool} (a b : A) where
  pub chosen : t ≡ true → choose t a b ≡ a
  chosen e = ap (λ (s : Bool). choose s a b) e

  pub not_chosen : t ≡ false → choose t a b ≡ b
  not_chosen e = ap (λ (s : Bool). choose s a b) e

-- a test's answer as a number, which `as` makes of it
pub as_number : (t : Bool) → bool_byte t ≡ choose t 1 0
as_number true = refl
as_number false = refl

-- what is chosen has what either has
pub by-case : {A : Type 0} (P : A → Type 0) (h : Bool) (a b : A) → (h ≡ true → P a) → (h ≡ false → P b) → P (choose h a b)
by-case P true a b p q = p refl
by-case P false a b p q = q refl

-- what is chosen is the same where both are
pub choose-same : {A : Type 0} (h : Bool) (a a' b b' : A) → (h ≡ true → a ≡ a') → (h ≡ false → b ≡ b') → choose h a b ≡ choose h a' b'
choose-same true a a' b b' p q = p refl
choose-same false a a' b b' p q = q refl

-- an answer was accepted: the first cause is not there, and the rest accepts
pub past-cause : {A : Type 0} (h : Bool) (k : ℕ) (rest : Outcome A) (x : A) → choose h (refused k) rest ≡ accepted x → (h ≡ false) × (rest ≡ accepted x)
past-cause true k rest x e =
    let never : ◌≡◌ {A = ℕ} 0 1 = cc in
    absurd (omega arith)
past-cause false k rest x e = (refl, e)

-- it was refused by another number: the first cause is not there, and the rest refuses
pub past-other : {A : Type 0} (h : Bool) (j k : ℕ) (rest : Outcome A) → (j ≡ k → ⊥) → choose h (refused j) rest ≡ refused k
    → (h ≡ false) × (rest ≡ refused k)
past-other true j k rest other e = absurd (other (ap number e))
past-other false j k rest other e = (refl, e)

-- what is accepted is not refused
pub not-refused : {A : Type 0} (x : A) (k : ℕ) → accepted x ≡ refused k → ⊥
not-refused x k e =
    let never : ◌≡◌ {A = ℕ} 0 1 = cc in
    absurd (omega arith)

-- a second cause that is not there may be left out
pub without-second : {A : Type 0} (c d : Cause) (cs : List Cause) (a : A) → d.holds ≡ false → outcome (c ∷ d ∷ cs) a ≡ outcome (c ∷ cs) a
without-second c d cs a e = ap (λ (t : Bool). choose c.holds (refused c.number) (choose t (refused d.number) (outcome cs a))) e
