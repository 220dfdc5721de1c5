-- `soft::soft_values` meets its contract. A test that does not hold leaves the causes after it; past the last test the lists are
-- what `make` wrote. Assumes nothing.
use Prim.Native.Nat.{ℕ, ◌≤◌}
use mathlib.Core.Bool.{Bool, true, false, not}
use mathlib.Core.Path.{◌≡◌, sym, ap, ◌∙◌}
use borrow.Author.Tests.{le-ltb}
use lib.ListN.{length, drop}
use Rattle.util.specs.Refusal.{outcome, accepted}
use Rattle.util.specs.Some.{some_of}
use Rattle.util.proofs.Choose.{not_chosen}
use Rattle.frame.specs.Format.{format_of, named, layout_named, listed}
use Rattle.model.specs.Range.{some_out}
use Rattle.soft.specs.Entry.{Asked, asked, count_out, sized, causes, soft_answer}
use Rattle.soft.proofs.Answer.{done, lent, count-is, soft-is}
use Rattle.soft.proofs.soft_values.Goals as goal

-- the answer is that of all but the first k causes
abbrev Left : ℕ → Asked → Type 0
Left k a = soft_answer a ≡ outcome (drop k (causes a)) tt

-- past every test, n to c being what they found
past : (a : Asked) (l w z t c : Bool) → named a.mode a.kind ≡ true → l ≡ layout_named a.layout → l ≡ true → a.bits ≤ 10240
    → w ≡ listed a.window (format_of a.mode).windows → w ≡ true → z ≡ sized a → z ≡ true → t ≡ some_out a.terms → t ≡ false
    → c ≡ some_of (count_out a.window) a.counts → c ≡ false → soft_answer a ≡ accepted tt
past a l w z t c n' el l' few ew w' ez z' et t' ec c' =
    let one : Left 1 a = not_chosen _ _ (ap not n') in
    let two : Left 2 a = one ∙ not_chosen _ _ (ap not (sym el ∙ l')) in
    let three : Left 3 a = two ∙ not_chosen _ _ (le-ltb 10240 _ few) in
    let four : Left 4 a = three ∙ not_chosen _ _ (ap not (sym ew ∙ w')) in
    let five : Left 5 a = four ∙ not_chosen _ _ (ap not (sym ez ∙ z')) in
    let six : Left 6 a = five ∙ not_chosen _ _ (sym et ∙ t') in
    six ∙ not_chosen _ _ (sym ec ∙ c')

pub make-requires : goal.make-requires
make-requires c = lent _ _ _ _ _ _ (sym c.sized.ensures ∙ c.if-not-sized.false) c.if-bits-gt10240.false

pub returns : goal.returns
returns c =
    let g = c.args in
    let a = asked g.mode g.kind g.layout g.symbols g.window g.bits g.terms.now g.blanked.now g.work.now g.metrics.now g.soft.now in
    let lengths = sym c.sized.ensures ∙ c.if-not-sized.false in
    let accepts = past a _ _ _ _ _ c.in_ok-named.ensures.1.1 c.is_layout.ensures c.if-not-is_layout.false
    c.if-bits-gt10240.false c.has_window.ensures c.if-not-has_window.false c.sized.ensures c.if-not-sized.false c.some_out.ensures
    c.if-some_out.false c.some_count_out.ensures c.if-some_count_out.false in
    let all = done a (length a.counts) (length a.soft) _ _ _ accepts (count-is a.bits _ _ _ _ _ lengths) (soft-is a.bits _ _ _ _ _ lengths)
    c.make.ensures.0 c.make.ensures.1 in
    record { answer = all.0; area = all.1.0; values = all.1.1.0; bits = all.1.1.1 }
