-- Of every accepted burst: the metrics out lie in -40..0 and the soft bits in -12..12, so none is a NaN.
-- The values lie within 5,000,000, and symbol's `Bounds` has what follows for each symbol. Assumes nothing.
use Prim.Native.Nat.{ℕ, ◌+◌, ◌*◌, ◌-◌, ◌/◌, ◌%◌, ◌<◌}
use mathlib.Core.Bool.{Bool, true, false, ◌&&◌}
use mathlib.Core.Path.{◌≡◌, refl, sym, subst}
use native.Mathlib.Omega.{arith}
use borrow.Author.Tests.{not-false}
use lib.Bits.{bit_xor, xor_lt}
use lib.Dec.{T, eqb, lit<}
use lib.ListN.{length, get_or}
use lib.Ieee.{Float, nan, binary32, add, neg, le}
use lib.Ieee.Fits.{and_l, and_r}
use Rattle.util.specs.Choose.{choose}
use Rattle.util.specs.Table.{rows}
use Rattle.util.specs.Refusal.{accepted}
use Rattle.util.proofs.Fill.{tabled-at}
use Rattle.util.proofs.Some.{none_of}
use Rattle.frame.specs.Format.{format_of, header_bits}
use Rattle.frame.specs.Air.{hop_of, bin_of, place_of, slot_of}
use Rattle.interleave.specs.Interleave.{symbols_of, scramble_of, sym_scramble_of, bit_back, sym_back}
use Rattle.frame.proofs.Air.{bins-some, bins-most, slot-within}
use Rattle.ieee.specs.Whole.{plus_zero, run}
use Rattle.ieee.specs.Within.{Within}
use Rattle.ieee.proofs.Intervals.{neg-in, point, add-in}
use Rattle.model.specs.Range.{million, out_of_range}
use Rattle.model.specs.Metric.{term_at, metric_of}
use Rattle.model.proofs.Terms.{place-in-row, term-in-symbol}
use Rattle.lse.specs.Lse.{float32, negative}
use Rattle.symbol.specs.Symbol.{erased_of}
use Rattle.forms.specs.Burst.{received, metric_at, soft_at, metrics_out, soft_out}
use Rattle.soft.specs.Entry.{Asked, soft_answer, values_of}
use Rattle.forms.proofs.Ways.{value-erased, value-kept}
use Rattle.forms.proofs.Forms.{scrambled-below}
use Rattle.soft.proofs.Answer.{accepted-all, lengths-are}
use Rattle.lse.proofs.Bounds.{low_end, high_end}
use Rattle.symbol.proofs.Bounds.{out-in, metric-in, soft-in}

term_in : (t : Float) → out_of_range t ≡ false → Within (negative 1000000) (float32 1000000) t
unfolding float32 negative neg
term_in t e =
    let both : T (le (million true) t && le t (million false)) = subst T (sym (not-false (le (million true) t && le t (million false)) e)) tt in
    record { from = and_l (le (million true) t) (le t (million false)) both; to = and_r (le (million true) t) (le t (million false)) both }

-- ---- a value: five terms within 1,000,000, or 0.0
terms-in : (x : ℕ → Float) → ((j : ℕ) → j < 5 → Within (negative 1000000) (float32 1000000) (x j))
    → Within low_end (high_end 0) (run (add binary32) plus_zero x 5)
unfolding run low_end high_end float32 negative le add
terms-in x h =
    let s1 = add-in binary32 (negative 1000000) (float32 1000000) (point (float32 0) tt) (h 0 (lit< tt)) tt in
    let s2 = add-in binary32 (negative 2000000) (float32 2000000) s1 (h 1 (lit< tt)) tt in
    let s3 = add-in binary32 (negative 3000000) (float32 3000000) s2 (h 2 (lit< tt)) tt in
    let s4 = add-in binary32 (negative 4000000) (float32 4000000) s3 (h 3 (lit< tt)) tt in
    add-in binary32 (negative 5000000) (float32 5000000) s4 (h 4 (lit< tt)) tt

zero_in : Within low_end (high_end 0) plus_zero
unfolding low_end high_end float32 negative le
zero_in = record { from = tt; to = tt }

-- ---- the lists
-- a scrambler may change the sign
turned : (x : Float) (b : Bool) → Within (negative 12) (float32 12) x → Within (negative 12) (float32 12) (choose b (neg x) x)
unfolding float32 negative neg
turned x true w = neg-in w
turned x false w = w

module _ (a : Asked) (ok : soft_answer a ≡ accepted tt) where
  abbrev n : ℕ
  n = symbols_of a.bits

  term-at : (i : ℕ) → i < 260 * n → Within (negative 1000000) (float32 1000000) (get_or a.terms i nan)
  term-at i h =
      let all = accepted-all a ok in
      let long : length a.terms ≡ 260 * symbols_of a.bits = (lengths-are a.bits _ _ _ _ _ all.lengths).0 in
      term_in (get_or a.terms i nan) (none_of out_of_range a.terms nan all.terms i (omega arith))

  kept_in : (i e : ℕ) → ((j : ℕ) → j < 5 → e + j - 2 < 52) → i < n
      → Within low_end (high_end 0) (metric_of (add binary32) plus_zero (λ i. get_or a.terms i nan) i e)
  unfolding metric_of
  kept_in i e row h =
      terms-in (λ j. get_or a.terms (term_at i j (e + j - 2)) nan)
      (λ j l. term-at (term_at i j (e + j - 2)) (omega (arith, term-in-symbol i j (e + j - 2) l (row j l))))

  value_in : (i v : ℕ) → i < n → Within low_end (high_end 0) (values_of a i v)
  value_in i v h = by (erased_of a.layout a.window (get_or a.counts i 0)) refl
    where
      bins : ℕ
      bins = (format_of a.mode).bins

      e : ℕ
      e = place_of (bin_of bins (hop_of bins (header_bits a.kind + i)) v)

      by : (t : Bool) → erased_of a.layout a.window (get_or a.counts i 0) ≡ t → Within low_end (high_end 0) (values_of a i v)
      by true q = subst (λ (x : Float). Within low_end (high_end 0) x)
          (sym (value-erased (received a.mode a.kind a.layout a.window a.terms a.counts) i v q)) zero_in
      by false q =
          subst (λ (x : Float). Within low_end (high_end 0) x)
          (value-kept (received a.mode a.kind a.layout a.window a.terms a.counts) i v _ _ _ q refl refl refl)
          (kept_in i e (λ j l. place-in-row bins (hop_of bins (header_bits a.kind + i)) v j (bins-some a.mode) (bins-most a.mode) l) h)

  -- the metrics out
  metric-at : (symbols : Bool) (i v : ℕ) → i < n → v < 32 → Within (negative 40) (float32 0) (metric_at symbols n (values_of a) i v)
  unfolding metric_at sym_back
  metric-at false i v h l = metric-in (values_of a i) (λ w k. value_in i w h) v l
  metric-at true p c h l =
      let s = slot-within n p h in
      metric-in (values_of a (slot_of n p)) (λ w k. value_in (slot_of n p) w s) (bit_xor c (sym_scramble_of p)) (xor_lt 5 c (sym_scramble_of p) l (scrambled-below p))

  pub metrics-bounded : (q : ℕ) → q < 32 * n → Within (negative 40) (float32 0) (get_or (metrics_out a.symbols n (values_of a)) q nan)
  unfolding metrics_out rows
  metrics-bounded q h =
      subst (λ (x : Float). Within (negative 40) (float32 0) x) (sym (tabled-at (32 * n) q (rows 32 (metric_at a.symbols n (values_of a))) nan h))
      (metric-at a.symbols (q / 32) (q % 32) (omega arith) (omega arith))

  -- the soft bits
  soft-at : (symbols : Bool) (p : ℕ) → p < 5 * n → Within (negative 12) (float32 12) (soft_at symbols n (values_of a) p)
  unfolding soft_at rows bit_back
  soft-at false p h =
      let s = slot_of (5 * n) p in
      let l = slot-within (5 * n) p h in
      turned _ (eqb (scramble_of p) 1) (soft-in (values_of a (s / 5)) (λ w k. value_in (s / 5) w (omega arith)) true (s % 5) (omega arith))
  soft-at true p h =
      soft-in (metric_at true n (values_of a) (p / 5)) (λ w k. out-in _ (metric-at true (p / 5) w (omega arith) k)) false (4 - p % 5) (omega arith)

  pub soft-bounded : (p : ℕ) → p < a.bits → Within (negative 12) (float32 12) (get_or (soft_out a.symbols n a.bits (values_of a)) p nan)
  unfolding soft_out
  soft-bounded p h =
      subst (λ (x : Float). Within (negative 12) (float32 12) x) (sym (tabled-at a.bits p (soft_at a.symbols n (values_of a)) nan h))
      (soft-at a.symbols p (omega arith))
