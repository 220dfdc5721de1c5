-- What is sent comes back: a bit's slot is its own, and what the scrambling did to it the receiving half undoes.
-- Assumes nothing.
use Prim.Native.Nat.{ℕ, zero, suc, ◌+◌, ◌*◌, ◌%◌, ◌≤◌, ◌<◌}
use mathlib.Core.Bool.{Bool, false, not}
use mathlib.Core.List.{List, [], ◌∷◌, map}
use mathlib.Core.Logic.{⊎_elim}
use mathlib.Core.Path.{◌≡◌, refl, sym, ap, subst, ◌∙◌}
use native.Mathlib.Omega.{arith}
use borrow.Author.Tests.{ltb-false}
use lib.Bits.{xor_lt}
use lib.Dec.{eqb, ltb}
use lib.Ieee.{Float, nan, neg}
use lib.ListN.{length, get_or, replicate, length-map, length-replicate, get_or-replicate, get_or-eq_default}
use Rattle.util.specs.Choose.{choose}
use Rattle.util.specs.Refusal.{Outcome, refused, accepted, afterwards}
use Rattle.util.specs.Table.{rows}
use Rattle.util.proofs.Choose.{past-cause}
use Rattle.util.proofs.Fill.{below_or_not, tabled-at, tabled-only, rows_at}
use Rattle.util.proofs.Some.{none_of}
use Rattle.frame.specs.Air.{slot_of}
use Rattle.frame.specs.Crc.{some_above}
use Rattle.frame.proofs.Air.{slot-within}
use Rattle.frame.proofs.Onto.{every-slot}
use Rattle.frame.proofs.Placed.{placed-length, placed_at, placed-else}
use Rattle.interleave.specs.Interleave.{scramble_of, sym_scramble_of, bit_back, sym_back}
use Rattle.interleave.specs.Sending.{slots_for, scrambled_bit, scrambled_symbol, sent_bits, sent_symbols, bits_answer, slots_after, symbols_answer, values_after}
use Rattle.interleave.specs.RoundTrip.{sign, metrics_back, BitsSent, SymbolsSent}
use Rattle.interleave.proofs.Scramblers.{scramble-below, scrambled-below}

-- a number repeated stands at every place, and past the end where it is the default
everywhere : (n s a : ℕ) → get_or (replicate n a) s a ≡ a
everywhere n s a =
    ⊎_elim
    (λ h. get_or-replicate n s a a h)
    (λ h. get_or-eq_default (replicate n a) a (omega (arith, length-replicate n a)))
    (below_or_not s n)

map_at : {A B : Type 0} (f : A → B) (l : List A) (i : ℕ) (a : A) (b : B) → i < length l → get_or (map f l) i b ≡ f (get_or l i a)
map_at f [] i a b h = absurd (omega arith)
map_at f (x ∷ l) zero a b h = refl
map_at f (x ∷ l) (suc i) a b h = map_at f l i a b (omega arith)

-- an entry of a list with none above a limit
within : (limit : ℕ) (l : List ℕ) (i : ℕ) → some_above limit l ≡ false → i < length l → get_or l i 0 ≤ limit
within limit l i e h = ltb-false limit (get_or l i 0) (none_of (ltb limit) l 0 e i h)

-- ---- bits

-- a bit that was scrambled and is unscrambled as a soft bit has the sign that it had
unscrambled-sign : (b r : ℕ) → b < 2 → r < 2 → sign b ≡ choose (eqb r 1) (neg (sign ((b + r) % 2))) (sign ((b + r) % 2))
unfolding neg
unscrambled-sign zero zero hb hr = refl
unscrambled-sign zero (suc zero) hb hr = refl
unscrambled-sign (suc zero) zero hb hr = refl
unscrambled-sign (suc zero) (suc zero) hb hr = refl
unscrambled-sign (suc (suc b)) r hb hr = absurd (omega arith)
unscrambled-sign zero (suc (suc r)) hb hr = absurd (omega arith)
unscrambled-sign (suc zero) (suc (suc r)) hb hr = absurd (omega arith)

module _ (bits : List ℕ) where
  abbrev n : ℕ
  n = slots_for (length bits)

  bits-size : length (sent_bits bits) ≡ n
  unfolding sent_bits
  bits-size = placed-length n (scrambled_bit bits) (replicate n 0) (length bits) ∙ length-replicate n 0

  bits-reached : (p : ℕ) → p < length bits → get_or (sent_bits bits) (slot_of n p) 0 ≡ scrambled_bit bits p
  unfolding sent_bits
  bits-reached p h = placed_at n (scrambled_bit bits) (replicate n 0) (length bits) p (length-replicate n 0) (omega arith) h

  bits-unreached : (s : ℕ) → ((p : ℕ) → p < length bits → slot_of n p ≡ s → ⊥) → get_or (sent_bits bits) s 0 ≡ 0
  unfolding sent_bits
  bits-unreached s none = placed-else n (scrambled_bit bits) (replicate n 0) (length bits) s none ∙ everywhere n s 0

  bit-restored : some_above 1 bits ≡ false → (p : ℕ) → p < length bits
      → get_or (map sign bits) p nan ≡ bit_back n (λ s. get_or (map sign (sent_bits bits)) s nan) p
  unfolding bit_back
  bit-restored digits p h =
      let slot : slot_of n p < length (sent_bits bits) = omega (arith, bits-size, slot-within n p (omega arith)) in
      let heard : sign (scrambled_bit bits p) ≡ get_or (map sign (sent_bits bits)) (slot_of n p) nan =
      sym (map_at sign (sent_bits bits) (slot_of n p) 0 nan slot ∙ ap sign (bits-reached p h)) in
      map_at sign bits p 0 nan h
      ∙ unscrambled-sign (get_or bits p 0) (scramble_of p) (omega (arith, within 1 bits p digits h)) (scramble-below p)
      ∙ ap (λ (x : Float). choose (eqb (scramble_of p) 1) (neg x) x) heard

  sent : some_above 1 bits ≡ false → BitsSent bits (sent_bits bits)
  sent digits =
      record {
        size = bits-size;
        reached = bits-reached;
        unreached = bits-unreached;
        restored =
            sym (tabled-only (length bits) (bit_back n (λ s. get_or (map sign (sent_bits bits)) s nan)) nan (map sign bits) (length-map bits sign)
            (bit-restored digits));
      }

-- ---- symbols

module _ (symbols : List ℕ) where
  symbols-size : length (sent_symbols symbols) ≡ length symbols
  unfolding sent_symbols
  symbols-size =
      placed-length (length symbols) (scrambled_symbol symbols) (replicate (length symbols) 0) (length symbols)
      ∙ length-replicate (length symbols) 0

  symbols-reached : (p : ℕ) → p < length symbols → get_or (sent_symbols symbols) (slot_of (length symbols) p) 0 ≡ scrambled_symbol symbols p
  unfolding sent_symbols
  symbols-reached p h =
      placed_at (length symbols) (scrambled_symbol symbols) (replicate (length symbols) 0) (length symbols) p
      (length-replicate (length symbols) 0) (omega arith) h

  symbols-tones : some_above 31 symbols ≡ false → (s : ℕ) → s < length (sent_symbols symbols) → get_or (sent_symbols symbols) s 0 < 32
  symbols-tones small s h =
      let step : (p : ℕ) × (p < length symbols) × (slot_of (length symbols) p ≡ s) = every-slot (length symbols) s (omega (arith, symbols-size)) in
      let own : get_or symbols step.0 0 < 32 = omega (arith, within 31 symbols step.0 small step.1) in
      let value : get_or (sent_symbols symbols) s 0 ≡ scrambled_symbol symbols step.0 =
      ap (λ (x : ℕ). get_or (sent_symbols symbols) x 0) (sym step.2) ∙ symbols-reached step.0 step.1 in
      omega (arith, xor_lt 5 (get_or symbols step.0 0) (sym_scramble_of step.0) own (scrambled-below step.0))

  symbols-land : some_above 31 symbols ≡ false → (metrics : List Float) (p : ℕ) → p < length symbols
      → get_or (metrics_back (length symbols) metrics) (32 * p + get_or symbols p 0) nan
      ≡ get_or metrics (32 * slot_of (length symbols) p + get_or (sent_symbols symbols) (slot_of (length symbols) p) 0) nan
  unfolding sym_back
  symbols-land small metrics p h =
      let n = length symbols in
      let x = get_or symbols p 0 in
      let own : x < 32 = omega (arith, within 31 symbols p small h) in
      let back : ℕ → ℕ → Float = sym_back n (λ s v. get_or metrics (32 * s + v) nan) in
      tabled-at (32 * n) (32 * p + x) (rows 32 back) nan (omega arith)
      ∙ rows_at 32 p x back own
      ∙ ap (λ (v : ℕ). get_or metrics (32 * slot_of n p + v) nan) (sym (symbols-reached p h))

-- ---- the entries

-- an accepted call has passed its third cause
passed : {A : Type 0} (a : A) (two four third : Bool) (k : ℕ)
    → choose two (refused 2) (choose four (refused 4) (choose third (refused k) (accepted a))) ≡ accepted a → third ≡ false
passed a two four third k e =
    (past-cause third k (accepted a) a
    (past-cause four 4 (choose third (refused k) (accepted a)) a
    (past-cause two 2 (choose four (refused 4) (choose third (refused k) (accepted a))) a e).1).1).0

-- of every accepted call, whatever the lent list held
pub bits-sent : (bits slots : List ℕ) → bits_answer bits (length slots) ≡ accepted tt → BitsSent bits (slots_after bits slots)
bits-sent bits slots e = subst (λ (l : List ℕ). BitsSent bits l) (sym lent) (sent bits digits)
  where
    lent : slots_after bits slots ≡ sent_bits bits
    lent = ap (λ (o : Outcome Unit). afterwards o slots (sent_bits bits)) e

    digits : some_above 1 bits ≡ false
    digits = passed tt (ltb 10240 (length bits)) (not (eqb (length slots) (slots_for (length bits)))) (some_above 1 bits) 5 e

pub symbols-sent : (symbols values : List ℕ) → symbols_answer symbols (length values) ≡ accepted tt → SymbolsSent symbols (values_after symbols values)
symbols-sent symbols values e = subst (λ (l : List ℕ). SymbolsSent symbols l) (sym lent) all
  where
    lent : values_after symbols values ≡ sent_symbols symbols
    lent = ap (λ (o : Outcome Unit). afterwards o values (sent_symbols symbols)) e

    small : some_above 31 symbols ≡ false
    small = passed tt (ltb 2048 (length symbols)) (not (eqb (length values) (length symbols))) (some_above 31 symbols) 11 e

    all : SymbolsSent symbols (sent_symbols symbols)
    all =
        record {
          size = symbols-size symbols;
          reached = symbols-reached symbols;
          tones = symbols-tones symbols small;
          lands = symbols-land symbols small;
        }
