-- OLDER SLIPS read and are written as before (document 02, #107): what #103 allowed is allowed, and nothing else is now but where the outcome byte
-- is 3. Assumes nothing.
use Prim.Native.Nat.{ℕ}
use mathlib.Core.Bool.{Bool, true, not, true≢false, and-eq-true_iff}
use mathlib.Core.List.{List}
use mathlib.Core.Path.{◌≡◌, refl, sym, ap, subst, ◌∙◌}
use borrow.Author.Tests.{ne_eqb}
use lib.Dec.{eqb, ltb}
use lib.ListN.{length, get_or}
use Rattle.util.specs.Choose.{choose}
use Rattle.util.specs.Refusal.{Outcome, refused, accepted}
use Rattle.frame.specs.Format.{named}
use Rattle.slip.specs.Spelling.{spell}
use Rattle.slip.specs.Lawful.{pass_goes, lawful, pass_went, older}
use Rattle.slip.specs.Slips.{writing, written, taken, reading, ReadsBy, Reads}
use Rattle.slip.specs.declared.Fields.{Fields}
use Rattle.slip.proofs.Slips.{taken_back, read-spelt, written-lawful, reads}

pub lawful-as-before : (f : Fields) → (f.outcome ≡ 3 → ⊥) → lawful f ≡ older f
unfolding lawful pass_goes pass_went
lawful-as-before f h = rw (ne_eqb f.outcome 3 h) refl

-- none of them had 3 for its outcome, so each is lawful still
pub never-three : (f : Fields) → older f ≡ true → f.outcome ≡ 3 → ⊥
unfolding pass_went
never-three f e three =
    let one = ((and-eq-true_iff (named f.mode f.kind) _).0 e).1 in
    let two = ((and-eq-true_iff (ltb f.word _) _).0 one).1 in
    let went : pass_went f.outcome f.pass ≡ true = ((and-eq-true_iff (pass_went f.outcome f.pass) _).0 two).0 in
    true≢false (sym (subst (λ (o : ℕ). pass_went o f.pass ≡ true) three went))

pub older-lawful : (f : Fields) → older f ≡ true → lawful f ≡ true
older-lawful f e = lawful-as-before f (never-three f e) ∙ e

-- ---- the reader

-- an older slip is read from its bytes as ever
pub older-read : (f : Fields) → older f ≡ true → reading (spell f) ≡ accepted f
older-read f e = read-spelt f (older-lawful f e)

-- and every string whose outcome byte is not 3 is answered as #103's reader had to
pub read-as-before : (b : List ℕ) → (get_or b 22 0 ≡ 3 → ⊥) → ReadsBy older b (reading b)
unfolding taken
read-as-before b h = by (reading b) (reads b)
  where
    other : (f : Fields) → lawful f ≡ true → spell f ≡ b → f.outcome ≡ 3 → ⊥
    other f l s three = h (ap (λ (c : List ℕ). (taken c).outcome) (sym s) ∙ ap (λ (g : Fields). g.outcome) (taken_back f l) ∙ three)

    by : (o : Outcome Fields) → Reads b o → ReadsBy older b o
    by (accepted f) (l, s) = (sym (lawful-as-before f (other f l s)) ∙ l, s)
    by (refused k) (e, none) = (e, λ f l s. none f (older-lawful f l) s)

-- ---- the writer

-- what it answered to any values but such as have 3 for their outcome
pub write-as-before : (f : Fields) (room : ℕ) → (f.outcome ≡ 3 → ⊥)
    → writing f room ≡ choose (not (eqb room (length (spell f)))) (refused 4) (choose (not (older f)) (refused 13) (accepted tt))
write-as-before f room h =
    ap (λ (t : Bool). choose (not (eqb room (length (spell f)))) (refused 4) (choose (not t) (refused 13) (accepted tt))) (lawful-as-before f h)

-- and an older slip has its 44 bytes as ever
pub older-written : (f : Fields) (out : List ℕ) → length out ≡ 44 → older f ≡ true → written f out ≡ spell f
older-written f out long e = written-lawful f out long (older-lawful f e)
