-- `level::of_rank` meets its contract. Assumes nothing.
use Rattle.level.proofs.Counting.{first-not, rank-here, rank-none}
use Rattle.level.proofs.Fences.{no-fence, fence-low, fence-high}
use Rattle.level.proofs.Turns.{held-there}
use Rattle.level.specs.Inside.{held_at}
use Rattle.level.specs.declared.Lies.TheVariants.{There}
use Rattle.level.specs.Rank.{ranks, first_that}
use Prim.Native.Nat.{◌+◌}
use mathlib.Core.Option.{none}
use lib.Ieee.{of_bits, div}
use mathlib.Core.Path.{◌≡◌, refl, sym}
use native.Mathlib.Omega.{arith}
use Rattle.level.proofs.of_rank.Goals as goal
use Rattle.level.proofs.of_rank.Goals.{in-Low, in-High, in-Fenced}

pub loop-b-init : goal.loop-b-init
unfolding first_that of_bits div
loop-b-init c = (omega arith, refl, no-fence _ _ _)

pub returns-in-There : goal.returns-in-There
returns-in-There c =
    let a = c.args in
    let held = held_at a.bins.now.marks.now a.bins.now.values.now a.bins.now.base in
    let test = ranks held a.bins.now.read a.k in
    let there = held-there test a.bins.now.marks.now a.bins.now.values.now a.bins.now.base c.loop-b.b (c.side_of.ensures.here c.in-There.is) in
    sym (rank-here held a.bins.now.read a.k c.loop-b.b _ (omega arith) c.loop-b.invariant.1 there.0 there.1)

pub loop-b-preserved : goal.loop-b-preserved
loop-b-preserved c =
    let side = c.side_of.ensures in
    let a = c.args in
    let i = c.loop-b in
    let held = held_at a.bins.now.marks.now a.bins.now.values.now a.bins.now.base in
    let more : ((c.side_of.result ≡ There → ⊥) → first_that (ranks held a.bins.now.read a.k) held (i.b + 1) ≡ none) =
    λ no. first-not (ranks held a.bins.now.read a.k) held i.b i.invariant.1 (side.not-here no) in
    elim c.match-side_of.branch [
      | in-Low w ↦ (omega arith, more (λ e. cc), rw (w.low-is, w.high-is) (fence-low _ _ a.bins.now.base a.bins.now.read a.k i.b _ i.low i.high side i.invariant.2 w.in-Low.is))
      | in-High w ↦ (omega arith, more (λ e. cc), rw (w.low-is, w.high-is) (fence-high _ _ a.bins.now.base a.bins.now.read a.k i.b _ i.low i.high side i.invariant.2 w.in-High.is))
      | in-Fenced w ↦ (omega arith, more (λ e. cc), rw (w.low-is, w.high-is) i.invariant.2)
    ]

pub returns : goal.returns
unfolding of_bits
returns c =
    let a = c.args in
    let held = held_at a.bins.now.marks.now a.bins.now.values.now a.bins.now.base in
    let all : c.loop-b.b ≡ a.bins.now.read = omega arith in
    sym (rank-none held a.bins.now.read a.k (rw all at c.loop-b.invariant.1))
