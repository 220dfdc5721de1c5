-- `butterfly::block` meets its contract. Assumes nothing.
use Prim.Native.Nat.{ℕ, suc, ◌+◌, ◌*◌, ◌^◌, ◌≤◌, ◌<◌}
use mathlib.Core.Path.{◌≡◌, refl, ap, ◌∙◌}
use native.Mathlib.Nat.{lt_irrefl, pow-succ'}
use native.Mathlib.Omega.{arith}
use lib.ListN.{get_or}
use lib.Pow.{pow_mono}
use Rattle.trellis.specs.Search.{upper, step}
use Rattle.pass.specs.Areas.{table, over}
use Rattle.butterfly.specs.Blocks.{word}
use Rattle.butterfly.proofs.Bits.{word_two}
use Rattle.butterfly.proofs.Butterfly.{even-lower-brings, even-upper-brings, odd-lower-brings, odd-upper-brings, score-is, decision-is}
use Rattle.butterfly.proofs.Halves.{two-length, two-done, two-kept}
use Rattle.butterfly.proofs.block.Goals as goal
use Rattle.butterfly.proofs.block.Goals.{In-loop-k}

twice : (k : ℕ) → 2 * (k + 1) ≡ suc (suc (2 * k))
twice k = omega arith

-- the place of this turn, and the word so far below it
room : (c : In-loop-k) → (c.loop-k.word < get_or c.args.places.now c.loop-k.k 0)
    × (get_or c.args.places.now c.loop-k.k 0 ≤ 1073741824)
room c =
    let e = c.requires.places.at c.loop-k.k c.loop-k-test.true in
    let most : 2 ^ (2 * c.loop-k.k) ≤ 2 ^ 30 = pow_mono {i = 2 * c.loop-k.k} {j = 30} (omega arith) in
    (omega (arith, e, c.loop-k.invariant.2), omega (arith, e, most))

pub loop-k-init : goal.loop-k-init
unfolding word
loop-k-init c = (
  omega arith,
  c.requires.in_range.1,
  omega arith,
  (λ metrics j tab. record {
    done = λ z h below. absurd (lt_irrefl z (omega arith));
    below = λ z h. refl;
    packed = refl;
  }),
)

pub overflow_mul-word : goal.overflow_mul-word
overflow_mul-word c =
    omega (arith, room (goal.at.overflow_mul-word c).In-loop-k, c.decision-in-loop-k.ensures.1)

pub overflow_add-word-in-loop-k : goal.overflow_add-word-in-loop-k
overflow_add-word-in-loop-k c =
    omega (arith, room (goal.at.overflow_add-word-in-loop-k c).In-loop-k, c.decision.ensures.1, c.decision-in-loop-k.ensures.1)

pub loop-k-preserved : goal.loop-k-preserved
loop-k-preserved c =
    let inv = c.loop-k.invariant in
    let f = c.args.scores.now in
    let h = c.args.h in
    let l = c.args.label in
    let k = c.loop-k.k in
    let next = c.loop-k.next in
    let i = h * 32 + 2 * k in
    let hh = c.requires.in_range.2 in
    let hk = c.loop-k-test.true in
    let el = c.requires.in_range.4 in
    let place = c.requires.places.at k hk in
    let v = c.greater.result in
    let w = c.greater-in-loop-k.result in
    let longer : 2 ^ (2 * (k + 1)) ≡ 4 * 2 ^ (2 * k) = ap (λ (n : ℕ). 2 ^ n) (twice k) ∙ pow-succ' 2 (suc (2 * k)) ∙ (omega (arith, pow-succ' 2 (2 * k))) in (
      omega arith,
      two-length next i v w ∙ inv.1,
      omega (arith, longer, place, inv.2, c.decision.ensures.1, c.decision-in-loop-k.ensures.1),
      (λ metrics j tab.
          let so = inv.3 metrics j tab in
          let X = over metrics in
          let ea = even-lower-brings tab h k l hh hk el f in
          let eb = even-upper-brings tab h k l hh hk el f in
          let ec = odd-lower-brings tab h k l hh hk el f in
          let ee = odd-upper-brings tab h k l hh hk el f in
          record {
            done = λ z lo below. two-done next i v w (step X (table f) j) (h * 32) (omega arith)
                (score-is metrics (table f) j i ea eb c.greater.ensures)
                (score-is metrics (table f) j (i + 1) ec ee c.greater-in-loop-k.ensures) so.done z lo (omega arith);
            below = two-kept next i v w c.args.next.now (h * 32) (omega arith) so.below;
            packed = word_two (upper X (table f) j) (h * 32) k c.loop-k.word so.packed
                (decision-is metrics (table f) j i ea eb c.decision.ensures.0 place)
                (decision-is metrics (table f) j (i + 1) ec ee c.decision-in-loop-k.ensures.0 place);
          }),
    )

pub returns-clause-block : goal.returns-clause-block
returns-clause-block c =
    let inv = c.loop-k.invariant in
    let all : 2 * c.loop-k.k ≡ 32 = omega arith in
    (λ metrics j tab.
    let so = inv.3 metrics j tab in
    record {
      done = λ z h below. so.done z h (omega arith);
      below = so.below;
      packed = so.packed ∙ ap (word (upper (over metrics) (table c.args.scores.now) j) (c.args.h * 32)) all;
    })
