-- `nearby::onward` meets its contract. Assumes nothing.
use Prim.Native.Nat.{◌<◌}
use mathlib.Core.Path.{◌≡◌, sym, ap, ◌∙◌}
use native.Mathlib.Nat.{ne_of_gt}
use native.Mathlib.Omega.{arith}
use lib.ListN.{length-set}
use lib.Seq.{get_or-set_other}
use Rattle.std.proofs.lemmas.List.{get_or_read_under}
use Rattle.nearby.proofs.Fill.{onward-more}
use Rattle.nearby.proofs.onward.Goals as goal

pub loop-b-preserved : goal.loop-b-preserved
loop-b-preserved g c =
    let a = c.args in
    let l = c.loop-b.list in
    let b = c.loop-b.b in (
      omega arith,
      omega arith,
      length-set l b _ ∙ c.loop-b.invariant.2,
      λ d k h. let far : b < k = omega arith in get_or-set_other l b k c.f.result d (ne_of_gt far) ∙ c.loop-b.invariant.3 d k (omega arith),
      λ d next is. let read = get_or_read_under l b 52 c.index-list-b.result d c.index-list-b.is (omega arith) (sym c.loop-b.invariant.2) in
          onward-more d a.from b next a.list.now l c.f.result (c.loop-b.invariant.4 d next is) (c.loop-b.invariant.2 ∙ sym c.requires.inside.2)
          (omega arith) (is _ _ _ c.f.ensures ∙ ap (next b) read),
    )

pub returns-clause-more : goal.returns-clause-more
returns-clause-more g c =
    let all : c.loop-b.b ≡ c.args.to = omega arith in
    λ d next is. rw all at (c.loop-b.invariant.4 d next is)
