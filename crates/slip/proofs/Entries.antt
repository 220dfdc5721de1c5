-- The two entries together: what `write_slip` leaves, `read_slip` gives back. Assumes nothing.
use Prim.Native.Nat.{ℕ}
use mathlib.Core.Bool.{true}
use mathlib.Core.List.{List}
use mathlib.Core.Path.{◌≡◌, ap, ◌∙◌}
use native.Mathlib.Omega.{arith}
use lib.ListN.{length}
use Rattle.util.specs.Refusal.{accepted, meaning_by}
use Rattle.slip.specs.Lawful.{lawful}
use Rattle.slip.specs.Slips.{fields_of, written, reading}
use Rattle.slip.specs.declared.Slip.{Slip}
use Rattle.std.specs.Prelude.{Result, Ok, Err}
use Rattle.util.specs.declared.refusal.Refusal.{Refusal}
use Rattle.slip.proofs.Numbers.{one-slip}
use Rattle.slip.proofs.Slips.{read-written}

its-numbers : (r : Result Slip Refusal) (s : Slip) → meaning_by fields_of r ≡ accepted (fields_of s) → r ≡ Ok s
its-numbers (Ok t) s e =
    let same : fields_of t ≡ fields_of s = cc in
    ap Ok (one-slip t s same)
its-numbers (Err k) s e = let z : ◌≡◌ {A = ℕ} 0 1 = cc in absurd (omega arith)

-- r is what the reader answers to the 44 bytes that the writer left
pub gives_back : (s : Slip) (out : List ℕ) (r : Result Slip Refusal) → length out ≡ 44 → lawful (fields_of s) ≡ true
    → meaning_by fields_of r ≡ reading (written (fields_of s) out) → r ≡ Ok s
gives_back s out r long l e = its-numbers r s (e ∙ read-written (fields_of s) out long l)
