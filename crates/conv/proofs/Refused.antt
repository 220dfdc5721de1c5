-- A header sent is refused by the first number of the order whose cause holds.
-- Assumes nothing.
use Prim.Native.Nat.{ℕ}
use mathlib.Core.List.{List}
use mathlib.Core.Path.{◌≡◌, refl}
use Rattle.util.specs.Refusal.{refused, First, NoneBelow}
use Rattle.util.proofs.First.{first}
use Rattle.conv.specs.Sent.{causes, sent_answer}

pub sent-first : (mode kind : ℕ) (bits : List ℕ) (room k : ℕ) → sent_answer mode kind bits room ≡ refused k → First k (causes mode kind bits room)
sent-first mode kind bits room k e =
    first (causes mode kind bits room) tt k refl e

-- and by the lowest, as document 01 says: its causes' numbers rise
pub sent-lowest : (mode kind : ℕ) (bits : List ℕ) (room k : ℕ) → sent_answer mode kind bits room ≡ refused k → NoneBelow k (causes mode kind bits room)
sent-lowest mode kind bits room k e = (sent-first mode kind bits room k e).lowest refl
