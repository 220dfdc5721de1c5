-- `interleave::interleave` meets its contract: each return by the tests that led there, and what is lent is what
-- `place` left of cleared slots. Assumes nothing.
use Prim.Native.Nat.{ℕ, ◌*◌}
use Rattle.std.proofs.Common.{rules}
use mathlib.Core.Bool.{false}
use mathlib.Core.List.{List}
use mathlib.Core.Path.{◌≡◌, sym, ap, ap₂, ◌∙◌}
use borrow.Author.Tests.{le-ltb, eq-eqb}
use lib.Dec.{ltb}
use lib.ListN.{length, replicate}
use Rattle.frame.specs.Air.{placed}
use Rattle.interleave.specs.Sending.{slots_for, scrambled_bit, sent_bits}
use Rattle.interleave.proofs.interleave.Goals as goal

-- past the first test there are no more than 10,240 bits, and past the second n slots
pub returns-clause-lent : goal.returns-clause-lent
unfolding sent_bits
returns-clause-lent c =
    let bits = c.args.bits.now in
    let few : ltb 10240 (length bits) ≡ false = le-ltb _ _ c.if-bits-gt10240.false in
    let n : 5 * c.symbols_of-n.result ≡ slots_for (length bits) = ap (λ (x : ℕ). 5 * x) c.symbols_of-n.ensures in
    let n-slots : length c.args.slots.now ≡ slots_for (length bits) = c.if-slots-n.false ∙ n in
    let digits = sym c.some_above_one.ensures ∙ c.if-some_above_one.false in
    let zeros = c.fill.ensures.after (λ y e. e) ∙ ap (λ (m : ℕ). replicate m 0) n-slots in
    simp (few, eq-eqb _ _ n-slots, digits)
    (c.place.ensures (scrambled_bit bits) (λ p r k. search rules) ∙ ap₂ (λ (m : ℕ) (l : List ℕ). placed m (scrambled_bit bits) (length bits) l) n zeros)
