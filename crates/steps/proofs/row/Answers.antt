-- `steps::row` meets its contract: the metrics of the symbol in the step's slot. Assumes nothing.
use Prim.Native.Nat.{◌<◌}
use mathlib.Core.Path.{◌≡◌}
use native.Mathlib.Nat.{mul-le-mul_right}
use native.Mathlib.Omega.{arith}
use Rattle.frame.proofs.Air.{some-bins, hop-below, slot-within}
use Rattle.frame.specs.Format.{format_of, header_bits}
use Rattle.steps.proofs.row.Goals as goal

pub metrics-requires : goal.metrics-requires
metrics-requires c =
    let a = c.args in
    let bins = some-bins a.mode in
    let e : c.bins-bins.result ≡ (format_of a.mode).bins = c.bins-bins.ensures in
    let pre = c.requires in
    let slot : c.header_slot-slot.result < header_bits a.kind =
    omega (arith, c.header_slot-slot.ensures, slot-within (header_bits a.kind) a.j pre.0) in (
      omega (arith, bins.0),
      omega (arith, bins.1),
      omega (arith, c.hop-hop.ensures, hop-below (format_of a.mode).bins c.header_slot-slot.result (omega (arith, bins.0))),
      omega (arith, mul-le-mul_right 260 slot, mul-le-mul_right 260 pre.0, pre.1),
    )
