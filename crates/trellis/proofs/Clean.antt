-- The premise of (iv) at full size: where in every symbol the term of value 0's bin is 1 and every other term 0, the closed word 0 scores more
-- than every other walk, in either mode and for every kind, over ℤ and in f32, and exactly by more than rounding loses. So it is handed out, by
-- closing in the first pass; and so it is where that term is a half, and no whole number. Assumes nothing.
use Prim.Native.Nat.{ℕ, zero, suc, ◌+◌, ◌*◌, ◌-◌, ◌/◌, ◌%◌, ◌^◌, ◌≤◌, ◌<◌}
use mathlib.Core.Path.{◌≡◌, refl, sym, ap, ap₂, ◌∙◌, subst, subst₂}
use mathlib.Core.Bool.{Bool, true, false}
use mathlib.Core.List.{List}
use mathlib.Core.Logic.{◌⊎◌, inl, inr}
use native.Mathlib.Nat.{zero-div, le_trans, mul-le-mul_right}
use native.Mathlib.Decide.{ℕ_discrete}
use native.Mathlib.Omega.{arith}
use borrow.Author.Tests.{eq-eqb, ne_eqb}
use lib.Count.{ones_in}
use lib.Dec.{T, eqb, lit<, lit≤, lt→ltb}
use lib.IntN.{ℤ, pos, negsuc, nat_abs, ◌+ℤ◌, ◌*ℤ◌, +ℤ_idl, +ℤ_idr}
use lib.Pow.{pow_pos}
use lib.Signed.{◌<ℤ◌}
use lib.ListN.{length}
use lib.Ieee.{Float, nan, fin, lt, le}
use Rattle.ieee.specs.Whole as Whole
use Rattle.ieee.specs.Whole.{plus_zero, run}
use Rattle.ieee.specs.Units.{Units, units}
use Rattle.util.specs.Choose.{choose}
use Rattle.util.specs.Table.{tabled}
use Rattle.util.proofs.Fill.{tabled-length, tabled-at}
use Rattle.util.proofs.Some.{none-where}
use Rattle.frame.specs.Format.{format_of, header_bits}
use Rattle.frame.specs.Air.{hop_of, slot_of}
use Rattle.frame.proofs.Air.{some-bins, bin-below, bins-differ, header-least}
use Rattle.conv.specs.Label.{label_of}
use Rattle.conv.specs.Encoder.{register, state, walk_register, made, bit}
use Rattle.conv.proofs.Linear.{label-lt, computed, label-computed}
use Rattle.model.specs.Metric.{term_at, metric_of}
use Rattle.model.specs.Range.{out_of_range, some_out}
use Rattle.trellis.specs.Scale.{sum}
use Rattle.trellis.specs.Answer.{OutInFirstPass}
use Rattle.trellis.specs.Numbers.{single, whole}
use Rattle.trellis.specs.Terms.{place_in, metric, lent, document_search, WholeTerms, UnitTerms}
use Rattle.trellis.specs.Demand.{walk, closed, Another, margin}
use Rattle.trellis.proofs.Demand.{demand-3, walks_less}
use Rattle.trellis.proofs.NearExact.{near-exact}
use Rattle.trellis.proofs.Guards.{values, any-whole}
use Rattle.trellis.proofs.Scaled.{times, walk-times, whole-units}
use Rattle.trellis.proofs.Silent.{only-zeros}

-- 1 where two numbers agree, else 0
abbrev one-if : ℕ → ℕ → ℤ
one-if x y = choose (eqb x y) (pos 1) (pos 0)

-- ---- the metrics: 1 for value 0, else 0

unfoldable pub clean : ℕ → ℕ → ℤ
clean bins i = one-if (i % 260) (104 + place_in bins (i / 260) 0)

clean-small : (bins i : ℕ) → nat_abs (clean bins i) ≤ 1
unfolding clean
clean-small bins i = go (eqb (i % 260) (104 + place_in bins (i / 260) 0))
  where
    go : (c : Bool) → nat_abs (choose c (pos 1) (pos 0)) ≤ 1
    go true = lit≤ tt
    go false = lit≤ tt

module _ (bins : ℕ) (least : 32 ≤ bins) (most : bins ≤ 48) where
  place-in : (s v : ℕ) → (2 ≤ place_in bins s v) × (place_in bins s v < 50)
  place-in s v = let b = bin-below bins (hop_of bins s) v (omega arith) in (omega arith, omega arith)

  clean_at : (s j q : ℕ) → 52 * j + q < 260 → clean bins (term_at s j q) ≡ one-if (52 * j + q) (104 + place_in bins s 0)
  unfolding clean
  clean_at s j q h =
      let rest : term_at s j q % 260 ≡ 52 * j + q = omega arith in
      let whole_part : term_at s j q / 260 ≡ s = omega arith in
      ap₂ (λ (x y : ℕ). one-if x (104 + place_in bins y 0)) rest whole_part

  -- only row 2 counts
  clean-off : (s v j : ℕ) → j < 5 → (j ≡ 2 → ⊥) → clean bins (term_at s j (place_in bins s v + j - 2)) ≡ pos 0
  clean-off s v j h off =
      let (a, b) = place-in s v in
      let (c, d) = place-in s 0 in
      clean_at s j (place_in bins s v + j - 2) (inside (place_in bins s v) j h b)
      ∙ rw (ne_eqb (52 * j + (place_in bins s v + j - 2)) (104 + place_in bins s 0) (apart (place_in bins s v) (place_in bins s 0) j h off a b c d)) refl
    where
      inside : (e j : ℕ) → j < 5 → e < 50 → 52 * j + (e + j - 2) < 260
      inside e j h l = omega arith

      apart : (e f j : ℕ) → j < 5 → (j ≡ 2 → ⊥) → 2 ≤ e → e < 50 → 2 ≤ f → f < 50 → 52 * j + (e + j - 2) ≡ 104 + f → ⊥
      apart e f j h off a b c d q = off (omega arith)

  five : (a b c d e : ℤ) → a ≡ pos 0 → b ≡ pos 0 → d ≡ pos 0 → e ≡ pos 0 → ((((pos 0 +ℤ a) +ℤ b) +ℤ c) +ℤ d) +ℤ e ≡ c
  five a b c d e p q r s =
      ap₂ (λ (x y : ℤ). ((((pos 0 +ℤ x) +ℤ y) +ℤ c) +ℤ d) +ℤ e) p q ∙ ap₂ (λ (x y : ℤ). ((pos 0 +ℤ c) +ℤ x) +ℤ y) r s
      ∙ +ℤ_idr ((pos 0 +ℤ c) +ℤ pos 0) ∙ +ℤ_idr (pos 0 +ℤ c) ∙ +ℤ_idl c

  metric-row : (s v : ℕ) → metric whole bins (clean bins) s v ≡ one-if (104 + place_in bins s v) (104 + place_in bins s 0)
  unfolding metric_of run
  metric-row s v =
      let e = place_in bins s v in
      let (a, b) = place-in s v in
      let back : e + 2 - 2 ≡ e = omega arith in
      five _ _ (clean bins (term_at s 2 (e + 2 - 2))) _ _ (clean-off s v 0 (lit< tt) (λ z. omega arith))
      (clean-off s v 1 (lit< tt) (λ z. omega arith)) (clean-off s v 3 (lit< tt) (λ z. omega arith))
      (clean-off s v 4 (lit< tt) (λ z. omega arith))
      ∙ clean_at s 2 (e + 2 - 2) (omega arith) ∙ ap (λ (x : ℕ). one-if (104 + x) (104 + place_in bins s 0)) back

  metric-one : (s : ℕ) → metric whole bins (clean bins) s 0 ≡ pos 1
  metric-one s = metric-row s 0 ∙ rw (eq-eqb (104 + place_in bins s 0) (104 + place_in bins s 0) refl) refl

  metric-none : (s v : ℕ) → v < 32 → (v ≡ 0 → ⊥) → metric whole bins (clean bins) s v ≡ pos 0
  metric-none s v l off =
      let apart : 104 + place_in bins s v ≡ 104 + place_in bins s 0 → ⊥ = λ e. off
      (bins-differ bins (hop_of bins s) v 0 (omega arith) (omega arith) (omega arith)) in
      metric-row s v ∙ rw (ne_eqb (104 + place_in bins s v) (104 + place_in bins s 0) apart) refl

-- ---- sums of ones and zeros

ones-sum : (x : ℕ → ℤ) (n : ℕ) → ((j : ℕ) → j < n → x j ≡ pos 1) → sum whole x n ≡ pos n
unfolding run
ones-sum x zero h = refl
ones-sum x (suc n) h = ap₂ ◌+ℤ◌ (ones-sum x n (λ j l. h j (omega arith))) (h n (omega arith)) ∙ ap pos (omega arith)

-- either all are ones, or the sum is less than their number
Below : (ℕ → ℤ) → ℕ → Type 0
Below x n = (k : ℕ) × (k < n) × (sum whole x n ≡ pos k)

ones-or-less : (x : ℕ → ℤ) → ((j : ℕ) → (x j ≡ pos 1) ⊎ (x j ≡ pos 0)) → (n : ℕ) → ((j : ℕ) → j < n → x j ≡ pos 1) ⊎ Below x n
unfolding run Below
ones-or-less x each zero = inl (λ j h. absurd (omega arith))
ones-or-less x each (suc n) = go (each n) (ones-or-less x each n)
  where
    go : (x n ≡ pos 1) ⊎ (x n ≡ pos 0) → ((j : ℕ) → j < n → x j ≡ pos 1) ⊎ Below x n → ((j : ℕ) → j < suc n → x j ≡ pos 1) ⊎ Below x (suc n)
    go (inl e) (inl all) = inl (λ j h. last (ℕ_discrete j n) e all h)
      where
        last : {j : ℕ} → Dec (j ≡ n) → x n ≡ pos 1 → ((j : ℕ) → j < n → x j ≡ pos 1) → j < suc n → x j ≡ pos 1
        last (yes q) e all h = ap x q ∙ e
        last {j} (no q) e all h = all j (omega arith)
    go (inr e) (inl all) = inr (n, omega arith, ap₂ ◌+ℤ◌ (ones-sum x n all) e ∙ ap pos (omega arith))
    go (inl e) (inr (k, l, q)) = inr (k + 1, omega arith, ap₂ ◌+ℤ◌ q e)
    go (inr e) (inr (k, l, q)) = inr (k + 0, omega arith, ap₂ ◌+ℤ◌ q e)

-- ---- the word 0 is a walk of zeros

label-none : label_of 0 ≡ 0
unfolding computed ones_in
label-none = label-computed 0

bit-none : (j : ℕ) → bit 0 j ≡ 0
bit-none j = ap (λ (x : ℕ). x % 2) (zero-div (2 ^ j))

made_none : (n k : ℕ) → made (bit 0) n k ≡ 0
unfolding made
made_none n zero = refl
made_none zero (suc k) = refl
made_none (suc n) (suc k) = ap₂ register (made_none n k) (bit-none n)

state-none : (p j : ℕ) → p ≡ 0 → state 16384 p (bit 0) j ≡ 0
unfolding state
state-none p zero e = e
state-none p (suc j) e = ap₂ (λ (q b : ℕ). register q b % 16384) (state-none p j e) (bit-none j)

-- ---- the claim's premise, and what follows

module _ (mode kind : ℕ) where
  abbrev ints : ℕ → ℤ
  ints = clean (format_of mode).bins

  abbrev terms : List Float
  terms = values ints (260 * header_bits kind)

  -- what step j of the walk (p, v) earns
  earned : ℕ → ℕ → ℕ → ℤ
  earned p v j = metric whole (format_of mode).bins ints (slot_of (header_bits kind) j) (label_of (walk_register 16384 p (bit v) j))

  earned-one : (p v j : ℕ) → label_of (walk_register 16384 p (bit v) j) ≡ 0 → earned p v j ≡ pos 1
  unfolding earned
  earned-one p v j e =
      let (least, most) = some-bins mode in
      ap (metric whole (format_of mode).bins ints (slot_of (header_bits kind) j)) e
      ∙ metric-one (format_of mode).bins least most (slot_of (header_bits kind) j)

  earned-none : (p v j : ℕ) → (label_of (walk_register 16384 p (bit v) j) ≡ 0 → ⊥) → earned p v j ≡ pos 0
  unfolding earned
  earned-none p v j off =
      let (least, most) = some-bins mode in
      metric-none (format_of mode).bins least most (slot_of (header_bits kind) j) (label_of (walk_register 16384 p (bit v) j))
      (label-lt (walk_register 16384 p (bit v) j)) off

  either : (p v j : ℕ) → (earned p v j ≡ pos 1) ⊎ (earned p v j ≡ pos 0)
  either p v j = go (ℕ_discrete (label_of (walk_register 16384 p (bit v) j)) 0)
    where
      go : Dec (label_of (walk_register 16384 p (bit v) j) ≡ 0) → (earned p v j ≡ pos 1) ⊎ (earned p v j ≡ pos 0)
      go (yes e) = inl (earned-one p v j e)
      go (no e) = inr (earned-none p v j e)

  all-silent : (p v : ℕ) → ((j : ℕ) → j < header_bits kind → earned p v j ≡ pos 1) → (j : ℕ) → j < header_bits kind
      → label_of (walk_register 16384 p (bit v) j) ≡ 0
  all-silent p v h j l = go (ℕ_discrete (label_of (walk_register 16384 p (bit v) j)) 0)
    where
      go : Dec (label_of (walk_register 16384 p (bit v) j) ≡ 0) → label_of (walk_register 16384 p (bit v) j) ≡ 0
      go (yes e) = e
      go (no e) = let z : ◌≡◌ {A = ℕ} 1 0 = ap nat_abs (sym (h j l) ∙ earned-none p v j e) in absurd (omega arith)

  closed-zero : closed whole mode kind ints 0 ≡ pos (header_bits kind)
  unfolding earned
  closed-zero =
      let start = made (bit 0) (header_bits kind) 14 in
      ones-sum (earned start 0) (header_bits kind)
      (λ j h. earned-one start 0 j (ap label_of (ap₂ register (state-none start j (made_none (header_bits kind) 14)) (bit-none j)) ∙ label-none))

  -- word 0 beats every other walk, which misses one step at least
  misses : (p v : ℕ) → p < 16384 → v < 2 ^ header_bits kind → Another kind 0 p v → Below (earned p v) (header_bits kind)
  misses p v hp hv other = go (ones-or-less (earned p v) (either p v) (header_bits kind))
    where
      go : ((j : ℕ) → j < header_bits kind → earned p v j ≡ pos 1) ⊎ Below (earned p v) (header_bits kind) → Below (earned p v) (header_bits kind)
      go (inl all) =
          let z = only-zeros p v (header_bits kind) hp (omega (arith, header-least kind)) (all-silent p v all) hv in
          absurd (other (z.0 ∙ sym (made_none (header_bits kind) 14), z.1))
      go (inr b) = b

  pub zero-beats : (p v : ℕ) → p < 16384 → v < 2 ^ header_bits kind → Another kind 0 p v
      → walk whole mode kind ints p v <ℤ closed whole mode kind ints 0
  unfolding earned Below
  zero-beats p v hp hv other =
      let (k, l, e) = misses p v hp hv other in
      subst₂ ◌<ℤ◌ (sym e) (sym closed-zero) (record { lt = lt→ltb k (header_bits kind) l })

  clean-whole : WholeTerms 800 terms ints
  clean-whole = any-whole ints (260 * header_bits kind) (λ i l. le_trans (clean-small (format_of mode).bins i) (lit≤ tt))

  -- so the read hands it out
  pub zero-out : ((document_search mode kind terms).word ≡ 0) × OutInFirstPass (document_search mode kind terms).outcome
  zero-out =
      (demand-3 mode kind terms ints (tabled-length (260 * header_bits kind) _) clean-whole).best.unique 0 (pow_pos (header_bits kind)) zero-beats

  -- it does so in f32 too: the premise of `AnyTerms`
  pub zero-beats-single : (p v : ℕ) → p < 16384 → v < 2 ^ header_bits kind → Another kind 0 p v
      → T (lt (walk single mode kind (lent terms) p v) (closed single mode kind (lent terms) 0))
  zero-beats-single p v hp hv other =
      subst T (sym (walks_less mode kind terms ints (tabled-length (260 * header_bits kind) _) clean-whole p v (made (bit 0) (header_bits kind) 14) 0))
      (zero-beats p v hp hv other).lt

  -- those terms are whole numbers of units too
  pub clean-units : UnitTerms 0 terms (times (2 ^ 149) ints)
  clean-units = whole-units {b = 1} 0 (record { whole = clean-whole.whole; small = λ i l. clean-small (format_of mode).bins i }) (lit≤ tt)

  -- and by so much that no rounding could hide it: the premise of `NearExact` with a = 0, for terms w units high where w is more than the margin
  pub zero-beats-exact : (w : ℕ) → margin 0 < w → (p v : ℕ) → p < 16384 → v < 2 ^ header_bits kind → Another kind 0 p v
      → (walk whole mode kind (times w ints) p v +ℤ pos (margin 0)) <ℤ closed whole mode kind (times w ints) 0
  unfolding earned Below
  zero-beats-exact w more p v hp hv other =
      let (k, l, e) = misses p v hp hv other in
      subst₂ (λ (x y : ℤ). (x +ℤ pos (margin 0)) <ℤ y)
      (sym (walk-times mode kind w ints p v ∙ ap (λ (z : ℤ). pos w *ℤ z) e))
      (sym (walk-times mode kind w ints (made (bit 0) (header_bits kind) 14) 0 ∙ ap (λ (z : ℤ). pos w *ℤ z) closed-zero))
      (far k (header_bits kind) w (margin 0) l more)
    where
      far : (k n w d : ℕ) → k < n → d < w → (pos w *ℤ pos k +ℤ pos d) <ℤ (pos w *ℤ pos n)
      far k n w d h l = record { lt = lt→ltb (w * k + d) (w * n) (omega (arith, mul-le-mul_right w h)) }

  -- ---- terms that are not whole: a half where the term is 1

  abbrev one_at : ℕ → Bool
  one_at i = eqb (i % 260) (104 + place_in (format_of mode).bins (i / 260) 0)

  pub half : ℕ → Float
  half i = choose (one_at i) (fin false 1 (negsuc 0)) plus_zero

  abbrev pub halves : List Float
  halves = tabled (260 * header_bits kind) half

  half_at : (i : ℕ) → i < length halves → lent halves i ≡ half i
  half_at i h = tabled-at (260 * header_bits kind) i half nan (subst (λ (n : ℕ). i < n) (tabled-length (260 * header_bits kind) half) h)

  pub halves-units : UnitTerms 0 halves (times (2 ^ 148) ints)
  unfolding half clean
  halves-units = record { units = λ i h. rw (half_at i h) (unit (one_at i)); small = λ i h. small (one_at i) }
    where
      unit : (c : Bool) → Units 149 (choose c (fin false 1 (negsuc 0)) plus_zero) (pos (2 ^ 148) *ℤ choose c (pos 1) (pos 0))
      unit true = units false 1 (negsuc 0) (2 ^ 148) refl
      unit false = units false 0 (pos 0) 0 refl

      small : (c : Bool) → nat_abs (pos (2 ^ 148) *ℤ choose c (pos 1) (pos 0)) ≤ 2 ^ (0 + 149)
      small true = lit≤ tt
      small false = lit≤ tt

  halves_in : some_out halves ≡ false
  unfolding half le
  halves_in = none-where out_of_range halves nan (λ i h. rw (half_at i h) (in-range (one_at i)))
    where
      in-range : (c : Bool) → out_of_range (choose c (fin false 1 (negsuc 0)) plus_zero) ≡ false
      in-range true = refl
      in-range false = refl

  -- the read of them hands out word 0, by closing in the first pass
  pub halves-out : ((document_search mode kind halves).word ≡ 0) × OutInFirstPass (document_search mode kind halves).outcome
  halves-out =
      (near-exact mode kind 0 halves (times (2 ^ 148) ints) (tabled-length (260 * header_bits kind) half) halves-units (lit≤ tt) halves_in).best.unique 0
      (pow_pos (header_bits kind)) (zero-beats-exact (2 ^ 148) (lit< tt))

-- a half is no whole number
pub half-broken : (z : ℤ) → Whole.Whole (fin false 1 (negsuc 0)) z → ⊥
half-broken z (Whole.whole s m e k p) = omega arith
