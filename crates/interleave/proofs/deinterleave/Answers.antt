-- `interleave::deinterleave` meets its contract. Assumes nothing.
use Prim.Native.Nat.{ℕ, ◌*◌, ◌%◌}
use mathlib.Core.Path.{◌≡◌, ap, ◌∙◌}
use native.Mathlib.Omega.{arith}
use lib.Dec.{eqb}
use lib.Ieee.{Float, nan, neg}
use lib.ListN.{length, get_or, length-set}
use Rattle.frame.specs.Air.{slot_of}
use Rattle.interleave.specs.Interleave.{scramble_of, bit_back}
use Rattle.util.proofs.Fill.{up_done, tabled-only}
use Rattle.util.specs.Choose.{choose}
use Rattle.interleave.proofs.deinterleave.Goals as goal

pub loop-p-preserved : goal.loop-p-preserved
unfolding bit_back slot_of
loop-p-preserved c =
    let a = c.args in
    let inv = c.loop-p.invariant in
    let p = c.loop-p.p in
    let v = c.unscrambled.result in
    let slots : ℕ → Float = λ s. get_or a.slots.now s nan in
    let e : v ≡ bit_back a.n slots p =
    c.unscrambled.ensures
    ∙ ap (λ (m : ℕ). choose (eqb (scramble_of p) 1) (neg (slots (m * p % a.n))) (slots (m * p % a.n))) c.mult-a.ensures.answer in (
      omega arith,
      length-set c.loop-p.out p v ∙ inv.1,
      up_done c.loop-p.out p v nan (bit_back a.n slots) (omega arith) e inv.2,
    )

pub returns : goal.returns
returns c =
    let a = c.args in
    tabled-only (length a.out.now) (bit_back a.n (λ s. get_or a.slots.now s nan)) nan c.loop-p.out c.loop-p.invariant.1
    (λ i h. c.loop-p.invariant.2 i (omega arith))
