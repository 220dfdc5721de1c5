-- `interleave::interleave_sym` meets its contract: each return by the tests that led there; every slot is written, so
-- nothing is left of what was lent. Assumes nothing.
use Rattle.std.proofs.Common.{rules}
use mathlib.Core.Bool.{false}
use mathlib.Core.Path.{◌≡◌, sym, ◌∙◌}
use borrow.Author.Tests.{le-ltb, eq-eqb}
use lib.Dec.{ltb}
use lib.ListN.{length, replicate, length-replicate}
use Rattle.frame.proofs.Placed.{placed-over}
use Rattle.interleave.specs.Sending.{scrambled_symbol, sent_symbols}
use Rattle.interleave.proofs.interleave_sym.Goals as goal

-- past the first test there are no more than 2,048 symbols
pub returns-clause-lent : goal.returns-clause-lent
unfolding sent_symbols
returns-clause-lent c =
    let symbols = c.args.symbols.now in
    let n = length symbols in
    let few : ltb 2048 n ≡ false = le-ltb _ _ c.if-symbols-gt2048.false in
    let small = sym c.some_above.ensures ∙ c.if-some_above.false in
    simp (few, eq-eqb _ _ c.if-values-symbols.false, small)
    (c.place.ensures (scrambled_symbol symbols) (λ p r k. search rules) ∙ placed-over n (scrambled_symbol symbols) (replicate n 0) c.args.values.now (length-replicate n 0) c.if-values-symbols.false)
