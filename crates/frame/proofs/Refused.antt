-- The CRC is refused by the first number of the order whose cause holds.
-- Assumes nothing.
use Prim.Native.Nat.{ℕ}
use mathlib.Core.Bool.{true}
use mathlib.Core.List.{List}
use mathlib.Core.Path.{◌≡◌, refl, sym, ◌∙◌}
use Rattle.util.specs.Refusal.{refused, First, NoneBelow}
use Rattle.util.specs.Crc.{crc_of}
use Rattle.util.proofs.First.{first}
use Rattle.frame.specs.Format.{layout_named}
use Rattle.frame.specs.Crc.{start_of, causes, crc_answer}
use Rattle.frame.specs.Base.{base_causes}
use Rattle.frame.proofs.Layouts.{answer-named}

pub crc-first : (mode kind k : ℕ) (bits : List ℕ) (l : ℕ) → crc_answer mode kind k bits ≡ refused l → First l (causes mode kind k bits)
crc-first mode kind k bits l e = first (causes mode kind k bits) (crc_of (start_of mode kind k) bits) l refl e

-- and in a named layout by the lowest of document 01's, as it says: their numbers rise
pub crc-lowest : (mode kind k : ℕ) (bits : List ℕ) (l : ℕ) → layout_named k ≡ true → crc_answer mode kind k bits ≡ refused l
    → NoneBelow l (base_causes mode kind bits)
crc-lowest mode kind k bits l known e =
    (first (base_causes mode kind bits) (crc_of (start_of mode kind k) bits) l refl (sym (answer-named mode kind k bits known) ∙ e)).lowest refl
