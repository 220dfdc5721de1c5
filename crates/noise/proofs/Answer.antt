-- What the public entry leaves in the lent list: on a refusal what was there, else the factors, each finite and at least 1. Assumes nothing.
use Prim.Native.Nat.{ℕ}
use mathlib.Core.List.{List}
use mathlib.Core.Path.{◌≡◌, sym, ap, subst, ◌∙◌}
use native.Mathlib.Omega.{arith}
use lib.ListN.{length}
use lib.Ieee.{Float}
use Rattle.util.specs.Refusal.{Outcome, refused, accepted, afterwards}
use Rattle.noise.specs.Local.{empty_mean, factors_of}
use Rattle.noise.specs.Entry.{Asked, noise_answer, factors_after, AtLeastOne}
use Rattle.noise.proofs.Least.{at_least_one}

-- a refusal promises nothing of the list
refusal : (k : ℕ) (l : List Float) → AtLeastOne (refused k) l
refusal k l = record { each = λ (e : ◌≡◌ {A = Outcome Unit} (refused k) (accepted tt)). let never : ◌≡◌ {A = ℕ} 0 1 = cc in absurd (omega arith) }

-- the same answer by another name
pub least-as : {o p : Outcome Unit} {l : List Float} → o ≡ p → AtLeastOne o l → AtLeastOne p l
least-as {o} {p} {l} e least = subst (λ (q : Outcome Unit). AtLeastOne q l) e least

module _ (a : Asked) (was : List Float) where
  left : (o : Outcome Unit) → noise_answer a (length was) ≡ o → afterwards o was (factors_of a.heard (empty_mean a.eps a.r)) ≡ factors_after a was
  left o e = ap (λ (o : Outcome Unit). afterwards o was (factors_of a.heard (empty_mean a.eps a.r))) (sym e)

  pub stays : (k : ℕ) → noise_answer a (length was) ≡ refused k
      → (refused k ≡ noise_answer a (length was)) × ((was ≡ factors_after a was) × AtLeastOne (refused k) was)
  stays k e = (sym e, (left (refused k) e, refusal k was))

  pub done : (new : List Float) → noise_answer a (length was) ≡ accepted tt → new ≡ factors_of a.heard (empty_mean a.eps a.r)
      → (◌≡◌ {A = Outcome Unit} (accepted tt) (noise_answer a (length was))) × ((new ≡ factors_after a was) × AtLeastOne (accepted tt) new)
  done new e made =
      let after = made ∙ left (accepted tt) e in (
        sym e,
        (
          after,
          subst (λ (l : List Float). AtLeastOne (accepted tt) l) (sym after)
              (least-as e (at_least_one a was)),
        ),
      )
