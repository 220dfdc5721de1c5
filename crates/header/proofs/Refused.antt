-- A header read is refused by the first number of the order whose cause holds. Assumes nothing.
use Prim.Native.Nat.{ℕ}
use mathlib.Core.List.{List}
use mathlib.Core.Path.{◌≡◌, refl}
use lib.Ieee.{Float}
use Rattle.util.specs.Refusal.{refused, First, NoneBelow}
use Rattle.util.proofs.First.{first}
use Rattle.trellis.specs.Terms.{document_search}
use Rattle.header.specs.Read.{Areas, causes, header_read}

pub read_first : (mode kind : ℕ) (terms : List Float) (w : Areas) (k : ℕ) → header_read mode kind terms w ≡ refused k → First k (causes mode kind terms w)
read_first mode kind terms w k e = first (causes mode kind terms w) (document_search mode kind terms) k refl e

-- and by the lowest, as document 01 says: its causes' numbers rise
pub read-lowest : (mode kind : ℕ) (terms : List Float) (w : Areas) (k : ℕ) → header_read mode kind terms w ≡ refused k → NoneBelow k (causes mode kind terms w)
read-lowest mode kind terms w k e = (read_first mode kind terms w k e).lowest refl
