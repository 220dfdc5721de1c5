-- A header's CRC is good under one mode, kind and layout only, among kinds of one length: the same bits have the same CRC
-- under no two. Assumes nothing.
use Prim.Native.Nat.{ℕ, ◌-◌}
use mathlib.Core.Bool.{true, true≢false}
use mathlib.Core.Path.{◌≡◌, sym, ap, subst}
use borrow.Author.Tests.{eqb-true}
use Rattle.util.specs.Refusal.{Outcome, refused, accepted}
use Rattle.util.specs.Table.{tabled}
use Rattle.frame.specs.Format.{header_bits}
use Rattle.frame.specs.Crc.{crc_answer}
use Rattle.frame.proofs.Layouts.{one-crc}
use Rattle.wire.specs.Bytes.{high_first}
use Rattle.burst_file.specs.Verdict.{header_bit, equals, crc_good}

-- what is equal to a number was answered with it
answered : (o : Outcome ℕ) (last : ℕ) → equals o last ≡ true → o ≡ accepted last
answered (refused k) last e = absurd (true≢false (sym e))
answered (accepted c) last e = ap accepted (eqb-true c last e)

pub one-layout : (mode kind k mode' kind' k' word : ℕ) → header_bits kind ≡ header_bits kind' → crc_good mode kind k word ≡ true
    → crc_good mode' kind' k' word ≡ true → (mode ≡ mode') × (kind ≡ kind') × (k ≡ k')
unfolding crc_good
one-layout mode kind k mode' kind' k' word long e e' =
    let n = header_bits kind - 16 in
    let bits = tabled n (header_bit word) in
    let last = high_first 2 (header_bit word) n 16 in
    let its : equals (crc_answer mode' kind' k' bits) last ≡ true =
    subst (λ (m : ℕ). equals (crc_answer mode' kind' k' (tabled (m - 16) (header_bit word))) (high_first 2 (header_bit word) (m - 16) 16) ≡ true) (sym long) e' in
    one-crc mode kind k mode' kind' k' bits last (answered (crc_answer mode kind k bits) last e) (answered (crc_answer mode' kind' k' bits) last its)
