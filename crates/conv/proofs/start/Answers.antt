-- `conv::start` meets its contract. Assumes nothing.
use Rattle.std.proofs.Common.{rules}
use Rattle.std.proofs.lemmas.List.{places}
use Prim.Native.Nat.{ℕ, ◌+◌, ◌-◌, ◌^◌, ◌≤◌, ◌<◌}
use mathlib.Core.Bool.{false}
use mathlib.Core.List.{List}
use mathlib.Core.Path.{◌≡◌, refl, sym, ap, ap₂, ◌∙◌}
use native.Mathlib.Numerals.{add-one}
use native.Mathlib.Omega.{arith}
use native.Mathlib.Nat.{lt_of_lt_of_le}
use lib.ListN.{length, get_or, take, drop}
use lib.Pow.{pow_mono}
use Rattle.frame.specs.Crc.{some_above_one}
use Rattle.conv.specs.Encoder.{register, made}
use Rattle.conv.specs.Sent.{bits_of}
use Rattle.conv.proofs.Closed.{made-below, bits_below}
use Rattle.conv.proofs.start.Goals as goal

-- one bit more
made-next : (bits : ℕ → ℕ) (i k : ℕ) → made bits (i + 1) (k + 1) ≡ register (made bits i k) (bits i)
unfolding made
made-next bits i k = ap₂ (made bits) (add-one i) (add-one k)

-- at most 14 bits are a small number
small : (bits : List ℕ) (i k : ℕ) → some_above_one bits ≡ false → k ≤ 14 → made (bits_of bits) i k < 2 ^ 14
small bits i k h l = lt_of_lt_of_le (made-below (bits_of bits) (bits_below bits h) i k) (pow_mono {j = 14} (omega arith))

-- a bit of the last 14, as of all
last : (bits : List ℕ) (k : ℕ) → 14 ≤ length bits → k < 14
    → get_or (take (length bits - (length bits - 14)) (drop (length bits - 14) bits)) k 0 ≡ bits_of bits (length bits - 14 + k)
last bits k h l = search (rules, places)

pub loop-bit-init : goal.loop-bit-init
unfolding made
loop-bit-init c = (omega arith, refl)

pub overflow_mul-state : goal.overflow_mul-state
overflow_mul-state c =
    let bits = c.args.bits.now in
    omega (arith, small bits (length bits - 14 + c.loop-bit.bit-index) c.loop-bit.bit-index c.requires.1 c.loop-bit.invariant.0, c.loop-bit.invariant.1)

pub overflow_add-state : goal.overflow_add-state
overflow_add-state c =
    let bits = c.args.bits.now in
    let k = c.loop-bit.bit-index in
    let under : k < 14 = search (rules, places) in
    let at = length bits - 14 + k in
    omega (arith, small bits at k c.requires.1 c.loop-bit.invariant.0, c.loop-bit.invariant.1, last bits k c.requires.0 under, bits_below bits c.requires.1 at)

pub loop-bit-preserved : goal.loop-bit-preserved
loop-bit-preserved c =
    let bits = c.args.bits.now in
    let k = c.loop-bit.bit-index in
    let under : k < 14 = search (rules, places) in
    let at = length bits - 14 + k in
    let one : at + 1 ≡ length bits - 14 + (k + 1) = omega arith in (
      omega arith,
      ap₂ register c.loop-bit.invariant.1 (last bits k c.requires.0 under) ∙ sym (made-next (bits_of bits) at k) ∙ ap (λ (i : ℕ). made (bits_of bits) i (k + 1)) one,
    )

pub returns : goal.returns
returns c =
    let bits = c.args.bits.now in
    let all : c.loop-bit.bit-index ≡ 14 = search (rules, places) in
    let end : length bits - 14 + c.loop-bit.bit-index ≡ length bits = omega arith in
    c.loop-bit.invariant.1 ∙ ap₂ (made (bits_of bits)) end all
