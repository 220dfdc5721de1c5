-- Bits and symbols to send are refused by the first number of the order whose cause holds. Assumes nothing.
use Prim.Native.Nat.{ℕ}
use mathlib.Core.List.{List}
use mathlib.Core.Path.{◌≡◌, refl}
use Rattle.util.specs.Refusal.{refused, First}
use Rattle.util.proofs.First.{first}
use Rattle.interleave.specs.Sending.{bit_causes, bits_answer, symbol_causes, symbols_answer}

pub bits-first : (bits : List ℕ) (room k : ℕ) → bits_answer bits room ≡ refused k → First k (bit_causes bits room)
bits-first bits room k e = first (bit_causes bits room) tt k refl e

pub symbols-first : (symbols : List ℕ) (room k : ℕ) → symbols_answer symbols room ≡ refused k → First k (symbol_causes symbols room)
symbols-first symbols room k e = first (symbol_causes symbols room) tt k refl e
