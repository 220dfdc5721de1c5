-- `level::side_of` meets its contract: by the fences, or by the two counts. Assumes nothing.
use Rattle.level.proofs.Fences.{fenced, lies-high, lies-low, lies-there, unfenced}
use Prim.Native.Nat.{◌+◌}
use Rattle.std.proofs.Common.{rules}
use lib.Ieee.{nan, lt, le}
use lib.ListN.{get_or}
use mathlib.Core.Path.{sym, ◌∙◌}
use native.Mathlib.Omega.{arith}
use Rattle.level.proofs.side_of.Goals as goal

pub returns-then-is_fenced : goal.returns-then-is_fenced
returns-then-is_fenced c =
    let a = c.args in
    fenced a.bins.now.marks.now a.bins.now.values.now a.bins.now.base a.bins.now.read a.k a.b a.low a.high c.requires.1 (sym c.is_fenced.ensures ∙ c.if-is_fenced.true)

pub returns-then-count-k : goal.returns-then-count-k
returns-then-count-k c =
    let a = c.args in
    lies-high a.bins.now.marks.now a.bins.now.values.now a.bins.now.base a.bins.now.read a.k a.b (unfenced a.bins.now.marks.now (a.bins.now.base + a.b) (get_or a.bins.now.values.now (a.bins.now.base + a.b) nan) a.low a.high (sym c.is_fenced.ensures ∙ c.if-is_fenced.false)) (omega (arith, c.count.ensures.count (λ y. lt y (get_or a.bins.now.values.now (a.bins.now.base + a.b) nan)) (λ y t k. search rules)))

pub returns-then-k-count : goal.returns-then-k-count
returns-then-k-count c =
    let a = c.args in
    lies-there a.bins.now.marks.now a.bins.now.values.now a.bins.now.base a.bins.now.read a.k a.b (unfenced a.bins.now.marks.now (a.bins.now.base + a.b) (get_or a.bins.now.values.now (a.bins.now.base + a.b) nan) a.low a.high (sym c.is_fenced.ensures ∙ c.if-is_fenced.false)) (omega (arith, c.count.ensures.count (λ y. lt y (get_or a.bins.now.values.now (a.bins.now.base + a.b) nan)) (λ y t k. search rules)))
    (omega (arith, c.count-2.ensures.count (λ y. le y (get_or a.bins.now.values.now (a.bins.now.base + a.b) nan)) (λ y t k. search rules)))

pub returns : goal.returns
returns c =
    let a = c.args in
    lies-low a.bins.now.marks.now a.bins.now.values.now a.bins.now.base a.bins.now.read a.k a.b (unfenced a.bins.now.marks.now (a.bins.now.base + a.b) (get_or a.bins.now.values.now (a.bins.now.base + a.b) nan) a.low a.high (sym c.is_fenced.ensures ∙ c.if-is_fenced.false)) (omega (arith, c.count-2.ensures.count (λ y. le y (get_or a.bins.now.values.now (a.bins.now.base + a.b) nan)) (λ y t k. search rules)))
