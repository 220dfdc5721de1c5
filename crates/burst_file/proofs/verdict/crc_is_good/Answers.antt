-- `burst_file::verdict::crc_is_good` meets its contract: the array's first places are the header's bits. Assumes nothing.
use Prim.Native.Nat.{ℕ, ◌+◌, ◌-◌, ◌≤◌, ◌<◌}
use mathlib.Core.Bool.{Bool}
use mathlib.Core.List.{List}
use mathlib.Core.Path.{◌≡◌, sym, ap, ap₂, ◌∙◌}
use native.Mathlib.Omega.{arith}
use lib.ListN.{length, get_or, take}
use lib.Seq.{length-take-le, get_or-take}
use borrow.Author.Tests.{eq-eqb, ne_eqb}
use Rattle.util.specs.Choose.{choose}
use Rattle.util.specs.Table.{tabled}
use Rattle.util.proofs.Fill.{tabled-only}
use Rattle.frame.specs.Format.{header_bits}
use Rattle.frame.specs.Crc.{crc_answer}
use Rattle.wire.specs.Bytes.{high_first}
use Rattle.wire.proofs.Bytes.{same_digits}
use Rattle.burst_file.specs.Verdict.{header_bit, equals, crc_good}
use Rattle.burst_file.proofs.verdict.crc_is_good.Goals as goal

good : (mode kind layout word n last : ℕ) (bits : List ℕ) (r : Bool) → header_bits kind - 16 ≡ n → n + 16 ≤ 64 → 64 ≡ length bits
    → ((k : ℕ) → k < 64 → get_or bits k 0 ≡ header_bit word k)
    → last ≡ high_first 2 (λ k. get_or bits k 0) n 16 → r ≡ equals (crc_answer mode kind layout (take n bits)) last → r ≡ crc_good mode kind layout word
unfolding crc_good
good mode kind layout word n last bits r e small long each l h =
    h
    ∙ ap₂ (λ (b : List ℕ) (x : ℕ). equals (crc_answer mode kind layout b) x)
    (tabled-only n (header_bit word) 0 (take n bits) (length-take-le n bits (omega arith)) (λ i below. get_or-take n bits i 0 below ∙ each i (omega arith)))
    (l ∙ same_digits 2 (λ k. get_or bits k 0) (header_bit word) n n 16 (λ k below. each (n + k) (omega arith)))
    ∙ ap (λ (m : ℕ). equals (crc_answer mode kind layout (tabled m (header_bit word))) (high_first 2 (header_bit word) m 16)) (sym e)

pub slice_bounds-agrees-end : goal.slice_bounds-agrees-end
slice_bounds-agrees-end c = sym (length-take-le _ c.bits_of-bits.result (omega arith))

pub returns-then-kind-eq1 : goal.returns-then-kind-eq1
returns-then-kind-eq1 c =
    let b = c.bits_of-bits in
    let kind = ap (λ (t : Bool). choose t 64 48 - 16) (eq-eqb _ _ c.if-kind-eq1.true) in
    good _ _ _ _ 48 c.last_sixteen-last.result b.result c.agrees.result kind (omega arith) b.ensures.size
    b.ensures.bits c.last_sixteen-last.ensures c.agrees.ensures

pub slice_bounds-agrees-end-2 : goal.slice_bounds-agrees-end-2
slice_bounds-agrees-end-2 c = sym (length-take-le _ c.bits_of-bits.result (omega arith))

pub returns : goal.returns
returns c =
    let b = c.bits_of-bits in
    let kind = ap (λ (t : Bool). choose t 64 48 - 16) (ne_eqb _ _ c.if-kind-eq1.false) in
    good _ _ _ _ 32 c.last_sixteen-last-2.result b.result c.agrees-2.result kind (omega arith) b.ensures.size
    b.ensures.bits c.last_sixteen-last-2.ensures c.agrees-2.ensures
