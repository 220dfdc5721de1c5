-- `interleave::deinterleave_sym` meets its contract. Assumes nothing.
use Prim.Native.Nat.{ℕ, ◌+◌, ◌*◌, ◌%◌}
use mathlib.Core.Path.{sym, ap₂, ◌∙◌}
use native.Mathlib.Omega.{arith}
use lib.Bits.{bit_xor}
use lib.Ieee.{Float, nan}
use lib.ListN.{get_or}
use Rattle.frame.specs.Air.{slot_of}
use Rattle.interleave.specs.Interleave.{sym_back}
use Rattle.interleave.proofs.Scramblers.{scrambled-below}
use Rattle.util.proofs.Fill.{rows_more, rows_at, tabled-only}
use Rattle.util.proofs.Slots.{slot-below}
use Rattle.util.specs.Table.{rows}
use Rattle.interleave.proofs.deinterleave_sym.Goals as goal

pub take_symbol-requires : goal.take_symbol-requires
take_symbol-requires c =
    let a = c.args in
    let s = slot-below c.mult-a.result c.loop-p.p a.n (omega arith) in
    (rw c.sym_scramble.ensures (scrambled-below _), omega arith, omega arith)

pub loop-p-preserved : goal.loop-p-preserved
unfolding sym_back slot_of
loop-p-preserved c =
    let a = c.args in
    let p = c.loop-p.p in
    let stored = c.take_symbol.ensures in
    let r = c.sym_scramble.ensures in
    let slots : ℕ → ℕ → Float = λ s v. get_or a.slots.now (32 * s + v) nan in (
      omega arith,
      stored.size ∙ c.loop-p.invariant.1,
      rows_more nan 32 p (rows 32 (sym_back a.n slots)) _ _ _ stored
          (λ k h. ap₂ (λ (m r : ℕ). slots (m * p % a.n) (bit_xor k r)) c.mult-a.ensures.answer r
          ∙ sym (rows_at 32 p k (sym_back a.n slots) h))
          c.loop-p.invariant.2,
    )

pub returns : goal.returns
returns c =
    let a = c.args in
    let e = c.requires in
    tabled-only (32 * a.n) (rows 32 (sym_back a.n (λ s v. get_or a.slots.now (32 * s + v) nan))) nan c.loop-p.out
    (c.loop-p.invariant.1 ∙ e.2) (λ i h. c.loop-p.invariant.2 i (omega arith))
