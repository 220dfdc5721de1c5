-- No refusal's number is 0, so a function that returns 0 or the refusal's number says by 0 that it answered. Assumes nothing.
use Rattle.std.proofs.Common.{◌≡◌, ℕ, Bool, true, false, ◌&&◌, ltb, List, [], ◌∷◌, sym, refl, ap, ◌∙◌, arith, ltb-true}
use mathlib.Core.Bool.{and-eq-true_iff}
use Rattle.util.specs.Choose.{choose}
use Rattle.util.specs.Refusal.{Cause, Outcome, refused, outcome}

-- each cause's number is above 0
abbrev pub numbered : List Cause → Bool
numbered [] = true
numbered (c ∷ cs) = ltb 0 c.number && numbered cs

first-not : {A : Type 0} (c : Cause) (cs : List Cause) (a : A) → ltb 0 c.number ≡ true → (outcome cs a ≡ refused 0 → ⊥) → (t : Bool) → c.holds ≡ t
    → outcome (c ∷ cs) a ≡ refused 0 → ⊥
first-not {A} c cs a above rest true p r =
    let same : ◌≡◌ {A = Outcome A} (refused c.number) (refused 0) = sym (ap (λ (t : Bool). choose t (refused c.number) (outcome cs a)) p) ∙ r in
    let zero : c.number ≡ 0 = cc in
    omega (arith, ltb-true 0 c.number above)
first-not c cs a above rest false p r = rest (sym (ap (λ (t : Bool). choose t (refused c.number) (outcome cs a)) p) ∙ r)

pub not-zero : {A : Type 0} (cs : List Cause) (a : A) → numbered cs ≡ true → outcome cs a ≡ refused 0 → ⊥
not-zero {A} [] a e r = let z : ◌≡◌ {A = ℕ} 0 1 = cc in omega arith
not-zero (c ∷ cs) a e r =
    let both = (and-eq-true_iff (ltb 0 c.number) (numbered cs)).0 e in first-not c cs a both.0 (not-zero cs a both.1) c.holds refl r
