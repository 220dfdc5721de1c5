-- What the public entry leaves in each list, refused or not, and what is known of what was asked where it is accepted. Assumes nothing.
use Prim.Native.Nat.{ℕ, ◌*◌, ◌≤◌}
use mathlib.Core.Bool.{Bool, true, false, and-eq-true_iff}
use mathlib.Core.List.{List, [], ◌∷◌}
use mathlib.Core.Path.{◌≡◌, refl, sym, ap, ap₂, ◌∙◌}
use native.Mathlib.Omega.{arith}
use borrow.Author.Tests.{eqb-true, ltb-false, not-false}
use lib.ListN.{length, replicate}
use lib.Ieee.{Float}
use Rattle.util.specs.Choose.{choose}
use Rattle.util.specs.Some.{some_of}
use Rattle.util.specs.Refusal.{Cause, Outcome, refused, accepted, outcome, afterwards}
use Rattle.frame.specs.Format.{format_of, layout_named, listed}
use Rattle.ieee.specs.Whole.{plus_zero}
use Rattle.model.specs.Range.{some_out}
use Rattle.interleave.specs.Interleave.{symbols_of}
use Rattle.forms.specs.Burst.{metrics_out, soft_out}
use Rattle.forms.specs.Inside.{Lent, Made}
use Rattle.soft.specs.Entry.{Asked, count_out, sizes, sized, causes, soft_answer, values_of, metrics_after, soft_after, work_after}

module _ (a : Asked) where
  -- a refusal leaves every list as it was
  pub stays : (k : ℕ) → soft_answer a ≡ refused k
      → (refused k ≡ soft_answer a) × ((a.work ≡ work_after a) × ((a.metrics ≡ metrics_after a) × (a.soft ≡ soft_after a)))
  stays k e =
      let area = ap (λ (o : Outcome Unit). afterwards o a.work (replicate (length a.work) plus_zero)) (sym e) in
      let values = ap (λ (o : Outcome Unit). afterwards o a.metrics (metrics_out a.symbols (symbols_of a.bits) (values_of a))) (sym e) in
      let bits = ap (λ (o : Outcome Unit). afterwards o a.soft (soft_out a.symbols (symbols_of a.bits) a.bits (values_of a))) (sym e) in
      (sym e, (area, (values, bits)))

  -- an answer leaves in them what was made
  pub done : (n b : ℕ) (w m s : List Float) → soft_answer a ≡ accepted tt → n ≡ symbols_of a.bits → b ≡ a.bits
      → w ≡ replicate (length a.work) plus_zero → Made a.symbols (values_of a) n b m s
      → (◌≡◌ {A = Outcome Unit} (accepted tt) (soft_answer a)) × ((w ≡ work_after a) × ((m ≡ metrics_after a) × (s ≡ soft_after a)))
  done n b w m s e p q z made =
      let area = z ∙ ap (λ (o : Outcome Unit). afterwards o a.work (replicate (length a.work) plus_zero)) (sym e) in
      let values = made.all ∙ ap (λ (n : ℕ). metrics_out a.symbols n (values_of a)) p
      ∙ ap (λ (o : Outcome Unit). afterwards o a.metrics (metrics_out a.symbols (symbols_of a.bits) (values_of a))) (sym e) in
      let bits = made.cut ∙ ap₂ (λ (n b : ℕ). soft_out a.symbols n b (values_of a)) p q
      ∙ ap (λ (o : Outcome Unit). afterwards o a.soft (soft_out a.symbols (symbols_of a.bits) a.bits (values_of a))) (sym e) in
      (sym e, (area, (values, bits)))

-- ---- accepted: no cause holds
abbrev NoneHolds : List Cause → Type 0
NoneHolds [] = Unit {0}
NoneHolds (c ∷ cs) = (c.holds ≡ false) × NoneHolds cs

none-holds : {A : Type 0} (cs : List Cause) (x : A) → outcome cs x ≡ accepted x → NoneHolds cs
none-holds [] x e = tt
none-holds (c ∷ cs) x e = by c.holds refl e (none-holds cs x)
  where
    by : (b : Bool) → c.holds ≡ b → choose b (refused c.number) (outcome cs x) ≡ accepted x
        → (outcome cs x ≡ accepted x → NoneHolds cs) → (c.holds ≡ false) × NoneHolds cs
    by false q g rest = (q, rest g)
    by true q g rest = absurd (let z : ◌≡◌ {A = ℕ} 0 1 = cc in omega arith)

pub record Accepted (a : Asked) : Type 0 where
  pub layout : layout_named a.layout ≡ true
  pub few : a.bits ≤ 10240
  pub window : listed a.window (format_of a.mode).windows ≡ true
  pub lengths : sized a ≡ true
  pub terms : some_out a.terms ≡ false
  pub counts : some_of (count_out a.window) a.counts ≡ false

pub accepted-all : (a : Asked) → soft_answer a ≡ accepted tt → Accepted a
accepted-all a e =
    let all = none-holds (causes a) tt e in
    record {
      layout = not-false _ all.1.0;
      few = ltb-false 10240 a.bits all.1.1.0;
      window = not-false _ all.1.1.1.0;
      lengths = not-false _ all.1.1.1.1.0;
      terms = all.1.1.1.1.1.0;
      counts = all.1.1.1.1.1.1.0;
    }

-- what the fourth test leaves: the lengths of one burst
module _ (bits t c w m s : ℕ) (e : sizes (symbols_of bits) bits t c w m s ≡ true) where
  pub lengths-are : (t ≡ 260 * symbols_of bits) × (c ≡ symbols_of bits) × (w ≡ 32 * symbols_of bits) × (m ≡ 32 * symbols_of bits) × (s ≡ bits)
  unfolding sizes
  lengths-are =
      let one = (and-eq-true_iff _ _).0 e in
      let two = (and-eq-true_iff _ _).0 one.1 in
      let three = (and-eq-true_iff _ _).0 two.1 in
      let four = (and-eq-true_iff _ _).0 three.1 in
      (eqb-true _ _ one.0, eqb-true _ _ two.0, eqb-true _ _ three.0, eqb-true _ _ four.0, eqb-true _ _ four.1)

  pub count-is : c ≡ symbols_of bits
  count-is = lengths-are.1

  pub soft-is : s ≡ bits
  soft-is = lengths-are.4

  pub lent : bits ≤ 10240 → Lent t c w m s
  lent h =
      let n = lengths-are.1 in
      record {
        few = omega (arith, n);
        enough = ap symbols_of lengths-are.4 ∙ sym n;
        terms = lengths-are.0 ∙ ap (λ (x : ℕ). 260 * x) (sym n);
        work = lengths-are.2 ∙ ap (λ (x : ℕ). 32 * x) (sym n);
        metrics = lengths-are.3 ∙ ap (λ (x : ℕ). 32 * x) (sym n);
      }
