-- `board::is_at` meets its contract. Assumes nothing.
use Prim.Native.Nat.{ℕ, ◌+◌, ◌-◌, ◌*◌, ◌≤◌, ◌<◌}
use mathlib.Core.Bool.{Bool, true, false, ◌&&◌}
use mathlib.Core.List.{List, []}
use mathlib.Core.Path.{◌≡◌, sym, ap, ap₂, ◌∙◌}
use borrow.Author.Tests.{lt-ltb, le-ltb}
use lib.Dec.{eqb, ltb}
use lib.ListN.{get_or, take, drop}
use Rattle.board.specs.Places.{places, segment_of, rising, is_listed, before}
use Rattle.board.proofs.Rising.{at_place}
use Rattle.board.proofs.Places.{length-places, nth-place, part}
use Rattle.board.proofs.is_at.Goals as goal

module _ (count p g : ℕ) (b : List ℕ) (r : rising 0 (places count b) ≡ true) (e : p ≡ before g (places count b)) where
  at : is_listed g (places count b) ≡ (ltb p count && eqb (segment_of (get_or (places count b) p [])) g)
  at =
      at_place g 0 (places count b) r
      ∙ ap₂ (λ (q n : ℕ). ltb q n && eqb (segment_of (get_or (places count b) q [])) g) (sym e) (length-places count b)

  at_count : count ≤ p → is_listed g (places count b) ≡ false
  at_count h = at ∙ ap (λ (t : Bool). t && eqb (segment_of (get_or (places count b) p [])) g) (le-ltb p count h)

  below-count : p < count → is_listed g (places count b) ≡ eqb (segment_of (take (44 * p + 44 - 44 * p) (drop (44 * p) b))) g
  below-count h =
      at
      ∙ ap₂ (λ (t : Bool) (s : List ℕ). t && eqb (segment_of s) g) (lt-ltb p count h) (nth-place count p b h ∙ sym (part p b))

pub returns-then-place-count : goal.returns-then-place-count
returns-then-place-count c =
    let pre = c.requires in
    let a = c.args in
    ap (λ (n : ℕ). eqb n a.segment) c.segment_of.ensures.number
    ∙ sym (below-count a.count a.place a.segment a.board.now pre.1.0 pre.1.1 c.if-place-count.true)

pub returns-else-place-count : goal.returns-else-place-count
returns-else-place-count c =
    let pre = c.requires in
    let a = c.args in
    le-ltb a.place a.count c.if-place-count.false ∙ sym (at_count a.count a.place a.segment a.board.now pre.1.0 pre.1.1 c.if-place-count.false)
