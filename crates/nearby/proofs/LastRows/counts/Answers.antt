-- `nearby::LastRows::counts` meets its contract. Assumes nothing.
use Rattle.nearby.proofs.Rows.{counted_none, counted-more, counted-few}
use Rattle.level.specs.Rank.{once}
use Rattle.std.proofs.Common.{rules}
use Rattle.std.proofs.lemmas.List.{get_or_default}
use Prim.Native.Nat.{◌+◌, ◌*◌, ◌%◌, ◌≤◌}
use lib.Dec.{eqb}
use lib.ListN.{get_or}
use mathlib.Core.List.{[]}
use mathlib.Core.Path.{◌≡◌}
use native.Mathlib.Omega.{arith}
use Rattle.nearby.proofs.LastRows.counts.Goals as goal

pub loop-n-init : goal.loop-n-init
loop-n-init c = (omega arith, λ values. counted_none _ values _)

pub each_bin-requires-clause-callable : goal.each_bin-requires-clause-callable
each_bin-requires-clause-callable c =
    let a = c.args in
    let so-far = c.loop-n.invariant.1 [] in
    λ d b h.
    let few : get_or c.loop-n.out b d ≤ 25 =
    omega (arith, get_or_default c.loop-n.out b d 0 (omega (arith, so-far.size)), counted-few a.self.now.marks [] a.first c.loop-n.n c.loop-n.out so-far b h) in
    search (rules, few)

pub loop-n-preserved : goal.loop-n-preserved
loop-n-preserved c =
    let a = c.args in
    let n = c.loop-n.n in
    let row = c.each_bin.ensures 0 (λ b m. m + once (eqb (get_or a.self.now.marks (52 * ((a.first + n) % 25) + b) 0) 1)) (λ b m r e. search rules) in
    (omega arith, λ values. counted-more a.self.now.marks values a.first n c.loop-n.out _ (c.loop-n.invariant.1 values) row)

pub returns : goal.returns
returns c =
    let all : c.loop-n.n ≡ 25 = omega arith in
    λ values. rw all at (c.loop-n.invariant.1 values)
