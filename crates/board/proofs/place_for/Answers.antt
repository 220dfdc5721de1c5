-- `board::place_for` meets its contract: each turn reads the first of the places that are left. Assumes nothing.
use Rattle.std.proofs.Common.{rules, arith, ◌+◌, ◌*◌, ◌≡◌, ◌<◌, ℕ, List, length, take, ◌++◌, ap, ◌∙◌}
use Rattle.board.specs.Places.{places, before}
use Rattle.board.proofs.Places.{of-take}
use Rattle.board.proofs.Rising.{before-after, before-first}
use Rattle.board.proofs.Cut.{cut}
use lib.Seq.{length-take-le}
use Rattle.board.proofs.place_for.Goals as goal

pub loop-i-init : goal.loop-i-init
loop-i-init c =
    let a = c.args in
    let size : c.into_iter-i-iterator.result.iter.size ≡ 44 = search rules in
    let none : c.into_iter-i-iterator.result.count ≡ 0 = search rules in
    let rest : c.into_iter-i-iterator.result.iter.rest.now ≡ take (44 * a.count) a.board.now = search rules in
    let same = ap (λ (b : List ℕ). before a.segment (places a.count b)) rest ∙ ap (before a.segment) (of-take a.count a.board.now c.requires) in (
      search rules,
      tt,
      size,
      (
        a.count,
        ap length rest ∙ length-take-le (44 * a.count) a.board.now c.requires,
        omega (arith, none),
        omega (arith, none, same),
      ),
    )

pub loop-i-preserved : goal.loop-i-preserved
loop-i-preserved c =
    let a = c.args in
    let l = c.loop-i in
    let size : length c.in-Some.place.now ≡ 44 = search rules in
    let same : c.next.new.self.iter.size ≡ 44 = search rules in
    let next : c.next.new.self.count ≡ l.i-iterator.count + 1 = search rules in
    let whole : l.i-iterator.iter.rest.now ≡ c.in-Some.place.now ++ c.next.new.self.iter.rest.now = search rules in
    let first = cut l.invariant.3.0 l.i-iterator.iter.rest.now c.in-Some.place.now c.next.new.self.iter.rest.now l.invariant.3.1 whole size in
    let one = ap (before a.segment) first.places_are ∙ before-after a.segment c.in-Some.place.now (places first.fewer c.next.new.self.iter.rest.now)
    (omega (arith, c.segment_of.ensures.number, c.if-segment_of-segment.false)) in (
      search rules,
      tt,
      same,
      (first.fewer, first.size, omega (arith, l.invariant.3.2, first.count, next), omega (arith, one, l.invariant.3.3, next)),
    )

pub returns-then-segment_of-segment : goal.returns-then-segment_of-segment
returns-then-segment_of-segment c =
    let a = c.args in
    let l = c.loop-i in
    let size : length c.in-Some.place.now ≡ 44 = search rules in
    let whole : l.i-iterator.iter.rest.now ≡ c.in-Some.place.now ++ c.next.new.self.iter.rest.now = search rules in
    let first = cut l.invariant.3.0 l.i-iterator.iter.rest.now c.in-Some.place.now c.next.new.self.iter.rest.now l.invariant.3.1 whole size in
    let at : c.in-Some.i ≡ l.i-iterator.count = search rules in
    let none = ap (before a.segment) first.places_are ∙ before-first a.segment c.in-Some.place.now (places first.fewer c.next.new.self.iter.rest.now)
    (omega (arith, c.segment_of.ensures.number, c.if-segment_of-segment.true)) in
    omega (arith, at, none, l.invariant.3.3)

pub returns : goal.returns
unfolding before places
returns c =
    let a = c.args in
    let l = c.loop-i in
    let few : length l.i-iterator.iter.rest.now < 44 = search rules in
    let none : l.invariant.3.0 ≡ 0 = omega (arith, few, l.invariant.3.1) in
    let left : before a.segment (places l.invariant.3.0 l.i-iterator.iter.rest.now) ≡ 0 =
    ap (λ (k : ℕ). before a.segment (places k l.i-iterator.iter.rest.now)) none in
    omega (arith, left, none, l.invariant.3.2, l.invariant.3.3)
