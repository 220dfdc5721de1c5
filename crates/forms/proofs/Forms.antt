-- Both forms: what is deinterleaved out of lists that hold the metrics, or the slots' soft bits, is what the definitions say.
-- An interleaver reads only slots that are there. Assumes nothing.
use Prim.Native.Nat.{ℕ, ◌+◌, ◌*◌, ◌-◌, ◌/◌, ◌%◌, ◌<◌}
use mathlib.Core.Bool.{Bool, true, false}
use mathlib.Core.List.{List}
use mathlib.Core.Path.{◌≡◌, ap, ◌∙◌}
use native.Mathlib.Omega.{arith}
use lib.Bits.{bit_xor, xor_lt}
use lib.Dec.{eqb}
use lib.ListN.{length, get_or}
use lib.Ieee.{Float, nan, neg}
use Rattle.util.specs.Choose.{choose}
use Rattle.util.specs.Table.{tabled, rows}
use Rattle.util.proofs.Fill.{tabled-length, tabled-at, tabled-same, rows_at}
use Rattle.frame.specs.Air.{slot_of}
use Rattle.interleave.specs.Interleave.{symbols_of, scramble_of, sym_scramble_of, bit_back, sym_back}
use Rattle.frame.proofs.Air.{slot-within}
use Rattle.symbol.specs.Symbol.{metric_out, soft_bit}
use Rattle.forms.specs.Burst.{metric_at, soft_at, metrics_out, soft_out}
use Rattle.symbol.proofs.Same.{soft-same}

-- an interleaver's answer depends on the n slots alone
bit-same : (n p : ℕ) (f g : ℕ → Float) → p < n → ((s : ℕ) → s < n → f s ≡ g s) → bit_back n f p ≡ bit_back n g p
unfolding bit_back
bit-same n p f g h e = ap (λ (x : Float). choose (eqb (scramble_of p) 1) (neg x) x) (e (slot_of n p) (slot-within n p h))

pub scrambled-below : (p : ℕ) → sym_scramble_of p < 32
unfolding sym_scramble_of
scrambled-below p = omega arith

pub sym-same : (n p c : ℕ) (f g : ℕ → ℕ → Float) → p < n → c < 32 → ((s v : ℕ) → s < n → v < 32 → f s v ≡ g s v) → sym_back n f p c ≡ sym_back n g p c
unfolding sym_back
sym-same n p c f g h l e = e (slot_of n p) (bit_xor c (sym_scramble_of p)) (slot-within n p h) (xor_lt 5 c (sym_scramble_of p) l (scrambled-below p))

rows_same : (w n q : ℕ) (f g : ℕ → ℕ → Float) → 0 < w → q / w < n → q % w < w → ((i k : ℕ) → i < n → k < w → f i k ≡ g i k) → rows w f q ≡ rows w g q
unfolding rows
rows_same w n q f g pos i k e = e (q / w) (q % w) i k

module _ (n bits : ℕ) (values : ℕ → ℕ → Float) where
  pub metrics-long : (symbols : Bool) → length (metrics_out symbols n values) ≡ 32 * n
  unfolding metrics_out
  metrics-long symbols = tabled-length (32 * n) (rows 32 (metric_at symbols n values))

  -- metric v of symbol i, in the list
  pub made_at : (symbols : Bool) (i v : ℕ) → i < n → v < 32 → get_or (metrics_out symbols n values) (32 * i + v) nan ≡ metric_at symbols n values i v
  unfolding metrics_out
  made_at symbols i v h l = tabled-at (32 * n) (32 * i + v) (rows 32 (metric_at symbols n values)) nan (omega arith)
      ∙ rows_at 32 i v (metric_at symbols n values) l

  pub bits-made : (work soft : List Float) → symbols_of bits ≡ n
      → ((q : ℕ) → q < 5 * n → get_or work q nan ≡ rows 5 (λ i k. soft_bit true k (values i)) q)
      → soft ≡ tabled bits (bit_back (5 * n) (λ s. get_or work s nan)) → soft ≡ soft_out false n bits values
  unfolding soft_out soft_at
  bits-made work soft enough slots e =
      e ∙ tabled-same bits _ _ (λ p h. bit-same (5 * n) p (λ s. get_or work s nan) (rows 5 (λ i k. soft_bit true k (values i))) (omega arith) slots)

  pub metrics-made : (work metrics : List Float) → work ≡ metrics_out false n values
      → metrics ≡ tabled (32 * n) (rows 32 (sym_back n (λ s v. get_or work (32 * s + v) nan)))
      → metrics ≡ metrics_out true n values
  unfolding metrics_out metric_at
  metrics-made work metrics w e =
      e ∙ tabled-same (32 * n) _ _ (λ q h.
      rows_same 32 n q (sym_back n (λ s v. get_or work (32 * s + v) nan)) (sym_back n (λ i. metric_out (values i))) (omega arith) (omega arith) (omega arith)
      (λ p c l m. sym-same n p c (λ s v. get_or work (32 * s + v) nan) (λ i. metric_out (values i)) l m
      (λ s v i k. ap (λ (x : List Float). get_or x (32 * s + v) nan) w ∙ made_at false s v i k)))

  pub soft-made : (metrics soft : List Float) → symbols_of bits ≡ n → metrics ≡ metrics_out true n values
      → soft ≡ tabled bits (rows 5 (λ i k. soft_bit false (4 - k) (λ v. get_or metrics (32 * i + v) nan))) → soft ≡ soft_out true n bits values
  unfolding soft_out soft_at
  soft-made metrics soft enough m e =
      e ∙ tabled-same bits _ _ (λ p h.
      rows_same 5 n p (λ i k. soft_bit false (4 - k) (λ v. get_or metrics (32 * i + v) nan))
      (λ i k. soft_bit false (4 - k) (metric_at true n values i)) (omega arith) (omega arith) (omega arith)
      (λ i k l j. soft-same (λ v. get_or metrics (32 * i + v) nan) (metric_at true n values i)
      (λ v q. ap (λ (x : List Float). get_or x (32 * i + v) nan) m ∙ made_at true i v l q) false (4 - k)))
