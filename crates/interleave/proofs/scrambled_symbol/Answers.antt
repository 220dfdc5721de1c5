-- `interleave::scrambled_symbol` meets its contract: a byte xor five bits is a byte. Assumes nothing.
use native.Mathlib.Omega.{arith}
use lib.Bits.{xor_lt}
use Rattle.interleave.proofs.Scramblers.{scrambled-below}
use Rattle.interleave.proofs.scrambled_symbol.Goals as goal

pub overflow_cast-result-2 : goal.overflow_cast-result-2
overflow_cast-result-2 c =
    let a = c.args in
    let r = c.sym_scramble.result in
    omega (arith, xor_lt 8 a.x r (omega arith) (omega (arith, c.sym_scramble.ensures, scrambled-below a.p)))
