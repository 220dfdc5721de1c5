-- `butterfly::word` meets its contract: two blocks are a word (`word_of`). Assumes nothing.
use Prim.Native.Nat.{ℕ, ◌+◌, ◌*◌, ◌<◌}
use mathlib.Core.Path.{sym, subst}
use native.Mathlib.Omega.{arith}
use lib.ListN.{get_or}
use Rattle.conv.proofs.Linear.{label-lt}
use Rattle.butterfly.proofs.Halves.{word_of}
use Rattle.butterfly.proofs.word.Goals as goal
use Rattle.butterfly.proofs.word.Goals.{Start}

-- the label of a block's first register is one
small : (c : Start) (h : ℕ) → h < 512 → get_or c.args.firsts.now h 0 < 32
small c h q = subst (λ (x : ℕ). x < 32) (sym (c.requires.places.1.at h q)) (label-lt (h * 32))

pub block-low-requires-clause-in_range : goal.block-low-requires-clause-in_range
block-low-requires-clause-in_range c =
    let h = 2 * c.args.w in
    let q : h < 512 = omega arith in
    (c.requires.in_range.0, c.requires.in_range.1, q, small (goal.at.block-low-requires-clause-in_range c).Start h q, c.requires.places.1.at h q)

pub block-high-requires-clause-in_range : goal.block-high-requires-clause-in_range
block-high-requires-clause-in_range c =
    let h = 2 * c.args.w + 1 in
    let q : h < 512 = omega arith in
    (c.requires.in_range.0, c.block-low.ensures.size, q, small (goal.at.block-high-requires-clause-in_range c).Start h q, c.requires.places.1.at h q)

pub returns-clause-word : goal.returns-clause-word
returns-clause-word c =
    let low = c.block-low in
    let high = c.block-high in
    (λ metrics j tab. word_of c.args.w high.ensures.size (low.ensures.block metrics j tab) (high.ensures.block metrics j tab))
