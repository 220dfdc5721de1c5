-- `probe::probe_bin` meets its contract, by the test on the value: a mode has bins, and a hop is one of them. Assumes nothing.
use native.Mathlib.Omega.{arith}
use Rattle.frame.specs.Format.{format_of}
use Rattle.frame.proofs.Air.{some-bins, hop-below}
use Rattle.probe.proofs.probe_bin.Goals as goal

pub tone_bin-requires : goal.tone_bin-requires
tone_bin-requires c =
    let a = c.args in
    let bins = some-bins a.mode in
    let hop = hop-below (format_of a.mode).bins a.i (omega (arith, bins.0)) in
    omega (arith, bins.0, bins.1, hop, c.bins-bins.ensures, c.hop.ensures)
