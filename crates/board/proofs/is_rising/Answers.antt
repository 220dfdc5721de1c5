-- `board::is_rising` meets its contract: each turn reads the first of the places that are left. Assumes nothing.
use Rattle.std.proofs.Common.{rules, Option, arith, ◌*◌, ◌≡◌, ◌<◌, ℕ, List, length, take, ◌++◌, sym, ap, ◌∙◌}
use Rattle.board.specs.Places.{places, rising}
use Rattle.board.proofs.Places.{of-take}
use Rattle.board.proofs.Cut.{cut, from_next, past_first}
use lib.Seq.{length-take-le}
use Rattle.board.proofs.is_rising.Goals as goal

pub loop-place-init : goal.loop-place-init
loop-place-init c =
    let a = c.args in
    let size : c.into_iter-place-iterator.result.size ≡ 44 = search rules in
    let rest : c.into_iter-place-iterator.result.rest.now ≡ take (44 * a.count) a.board.now = search rules in (
      omega (arith, size),
      tt,
      size,
      (
        a.count,
        ap length rest ∙ length-take-le (44 * a.count) a.board.now c.requires,
        ap (λ (b : List ℕ). rising 0 (places a.count b)) rest ∙ ap (rising 0) (of-take a.count a.board.now c.requires),
      ),
    )

pub loop-place-preserved : goal.loop-place-preserved
loop-place-preserved c =
    let l = c.loop-place in
    let size : length c.in-Some.place.now ≡ 44 = search rules in
    let same : c.next.new.self.size ≡ 44 = search rules in
    let whole : l.place-iterator.rest.now ≡ c.in-Some.place.now ++ c.next.new.self.rest.now = search rules in
    let first = cut l.invariant.3.0 l.place-iterator.rest.now c.in-Some.place.now c.next.new.self.rest.now l.invariant.3.1 whole size in
    let left = places first.fewer c.next.new.self.rest.now in
    let past = past_first l.least c.in-Some.place.now left c.least_after.result c.least_after.ensures in (
      omega (arith, same),
      tt,
      same,
      (
        first.fewer,
        first.size,
        sym (ap (λ (o : Option ℕ). from_next o left) c.in-Some-least_after.is) ∙ past ∙ ap (rising l.least) (sym first.places_are) ∙ l.invariant.3.2,
      ),
    )

pub returns-in-None-least_after : goal.returns-in-None-least_after
returns-in-None-least_after c =
    let l = c.loop-place in
    let size : length c.in-Some.place.now ≡ 44 = search rules in
    let whole : l.place-iterator.rest.now ≡ c.in-Some.place.now ++ c.next.new.self.rest.now = search rules in
    let first = cut l.invariant.3.0 l.place-iterator.rest.now c.in-Some.place.now c.next.new.self.rest.now l.invariant.3.1 whole size in
    let left = places first.fewer c.next.new.self.rest.now in
    let past = past_first l.least c.in-Some.place.now left c.least_after.result c.least_after.ensures in
    sym (ap (λ (o : Option ℕ). from_next o left) c.in-None-least_after.is) ∙ past ∙ ap (rising l.least) (sym first.places_are) ∙ l.invariant.3.2

pub returns : goal.returns
unfolding rising places
returns c =
    let l = c.loop-place in
    let few : length l.place-iterator.rest.now < 44 = search rules in
    let none : l.invariant.3.0 ≡ 0 = omega (arith, few, l.invariant.3.1) in
    sym (ap (λ (k : ℕ). rising l.least (places k l.place-iterator.rest.now)) none) ∙ l.invariant.3.2
