-- `conv::encode` meets its contract. Assumes nothing.
use Prim.Native.Nat.{ℕ, ◌+◌, ◌%◌, ◌<◌}
use mathlib.Core.Bool.{false}
use mathlib.Core.List.{List}
use mathlib.Core.Path.{◌≡◌, refl, sym, ap, ◌∙◌}
use native.Mathlib.Numerals.{add-one}
use native.Mathlib.Omega.{arith}
use lib.ListN.{length}
use Rattle.frame.specs.Format.{header_bits}
use Rattle.frame.specs.Air.{placed}
use Rattle.frame.specs.Crc.{some_above_one}
use Rattle.frame.proofs.Air.{slot-within}
use Rattle.frame.proofs.Placed.{placed-step, placed-long}
use Rattle.conv.specs.Label.{label_of}
use Rattle.conv.specs.Encoder as encoder
use Rattle.conv.specs.Sent.{bits_of, step_label}
use Rattle.conv.proofs.Closed.{state-below, made-below, bits_below}
use Rattle.conv.proofs.Linear.{label-lt}
use Rattle.conv.proofs.Slots.{labels-over}
use Rattle.conv.proofs.encode.Invariants.{after}
use Rattle.conv.proofs.encode.Goals as goal

after-below : (bits : List ℕ) (n j : ℕ) → some_above_one bits ≡ false → after bits n j < 16384
unfolding after
after-below bits n j h =
    state-below (bits_of bits) (bits_below bits h) 16384 (encoder.made (bits_of bits) n 14) j (made-below (bits_of bits) (bits_below bits h) n 14)

small : (l r : ℕ) → l ≡ label_of r → l < 32
small l r e = omega (arith, label-lt r)

-- one step more
after_next : (bits : List ℕ) (n j : ℕ) → after bits n (j + 1) ≡ encoder.register (after bits n j) (bits_of bits j) % 16384
unfolding after encoder.state
after_next bits n j = ap (after bits n) (add-one j)

pub loop-j-init : goal.loop-j-init
unfolding after encoder.state placed
loop-j-init c =
    (omega arith, c.start-state.ensures ∙ ap (λ (n : ℕ). encoder.made (bits_of c.args.bits.now) n 14) c.requires.0, refl)

pub overflow_mul-register : goal.overflow_mul-register
overflow_mul-register c =
    omega (arith, c.loop-j.invariant.1, after-below c.args.bits.now (header_bits c.args.kind) c.loop-j.j c.requires.2)

pub overflow_add-register : goal.overflow_add-register
overflow_add-register c =
    let bits = c.args.bits.now in
    let below = after-below bits (header_bits c.args.kind) c.loop-j.j c.requires.2 in
    omega (arith, c.loop-j.invariant.1, below, bits_below bits c.requires.2 c.loop-j.j)

pub overflow_cast-values : goal.overflow_cast-values
overflow_cast-values c = omega (arith, small _ _ c.label.ensures)

pub bounds-values-slot : goal.bounds-values-slot
bounds-values-slot c =
    let n = header_bits c.args.kind in
    let bits = c.args.bits.now in
    let long : length c.loop-j.values ≡ n = placed-long n (step_label (bits_of bits) n) _ _ _ c.loop-j.invariant.2 ∙ c.requires.1 in
    omega (arith, c.header_slot-slot.ensures, slot-within n c.loop-j.j (omega (arith, c.requires.0)))

pub loop-j-preserved : goal.loop-j-preserved
unfolding after step_label
loop-j-preserved c =
    let n = header_bits c.args.kind in
    let bits = c.args.bits.now in
    let was = c.args.values.now in
    let j = c.loop-j.j in
    let step : c.label.result ≡ step_label (bits_of bits) n j =
    c.label.ensures ∙ ap (λ (p : ℕ). label_of (encoder.register p (bits_of bits j))) c.loop-j.invariant.1 in (
      omega (arith, c.requires.0),
      ap (λ (p : ℕ). encoder.register p (bits_of bits j) % 16384) c.loop-j.invariant.1 ∙ sym (after_next bits n j),
      placed-step n (step_label (bits_of bits) n) was _ j _ _ c.loop-j.invariant.2 c.header_slot-slot.ensures step,
    )

pub returns : goal.returns
returns c =
    let n = header_bits c.args.kind in
    let bits = c.args.bits.now in
    let end : c.loop-j.j ≡ n = omega (arith, c.requires.0) in
    c.loop-j.invariant.2 ∙ ap (λ (m : ℕ). placed n (step_label (bits_of bits) n) m c.args.values.now) end
    ∙ labels-over n (bits_of bits) c.args.values.now c.requires.1
