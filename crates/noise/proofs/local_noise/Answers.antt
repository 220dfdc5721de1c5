-- `noise::local_noise` meets its contract. A test that does not hold leaves the causes after it; where one holds, its number is the
-- answer and nothing was written; past the last the list is what `make` wrote. Assumes nothing.
use Prim.Native.Nat.{ℕ}
use Rattle.noise.proofs.Accepted.{accepted-all}
use Rattle.noise.proofs.Answer.{done}
use Rattle.frame.specs.Format.{named}
use Rattle.noise.specs.Entry.{Asked, asked, sizes, out_of_range, causes, noise_answer}
use Rattle.noise.specs.Local.{empty_mean}
use Rattle.util.proofs.Choose.{not_chosen}
use Rattle.util.specs.Refusal.{outcome, accepted}
use lib.Ieee.{of_bits}
use lib.ListN.{length, drop}
use mathlib.Core.Bool.{Bool, true, false, not}
use mathlib.Core.Path.{◌≡◌, sym, ap, ◌∙◌}
use Rattle.noise.proofs.local_noise.Goals as goal

-- the answer is that of all but the first k causes
abbrev Left : ℕ → Asked → ℕ → Type 0
Left k a room = noise_answer a room ≡ outcome (drop k (causes a room)) tt

-- past the three tests, n, s and o being what they found
past : (a : Asked) (room : ℕ) (s o : Bool) → named a.heard.mode a.heard.kind ≡ true
    → s ≡ sizes a.heard.rows (length a.heard.energies) (length a.heard.noise) room → s ≡ true
    → o ≡ out_of_range a.heard.rows a.eps a.r a.heard.noise a.heard.energies → o ≡ false → noise_answer a room ≡ accepted tt
past a room s o p f q g r =
    let one : Left 1 a room = not_chosen _ _ (ap not p) in
    let two : Left 2 a room = one ∙ not_chosen _ _ (ap not (sym f ∙ q)) in
    two ∙ not_chosen _ _ (sym g ∙ r)

pub make-requires : goal.make-requires
make-requires c =
    let g = c.args in
    let a = asked g.mode g.kind g.rows g.energies.now g.noise.now g.eps g.r in
    let accepts = past a (length g.factors.now) _ _ c.in_ok-named.ensures.1.1 c.sized.ensures c.if-not-sized.false
    c.out_of_range.ensures c.if-out_of_range.false in
    let ok = accepted-all a (length g.factors.now) accepts in
    (record { few = ok.few; energies-long = ok.energies-long; noise-long = ok.noise-long }, ok.factors-long)

pub returns : goal.returns
unfolding empty_mean of_bits
returns c =
    let g = c.args in
    let a = asked g.mode g.kind g.rows g.energies.now g.noise.now g.eps g.r in
    let accepts = past a (length g.factors.now) _ _ c.in_ok-named.ensures.1.1 c.sized.ensures c.if-not-sized.false
    c.out_of_range.ensures c.if-out_of_range.false in
    let all = done a g.factors.now _ accepts c.make.ensures in
    record { answer = all.0; lent = all.1.0; least = all.1.1 }
