-- Parts of a step put together; a decision read from a number by a mask, and found in a piece of a word. Assumes nothing.
use Prim.Native.Nat.{ℕ, suc, ◌+◌, ◌*◌, ◌-◌, ◌/◌, ◌%◌, ◌^◌, ◌<◌, ◌≤◌}
use mathlib.Core.Bool.{Bool, true, false}
use mathlib.Core.List.{List}
use mathlib.Core.Logic.{⊎_elim}
use mathlib.Core.Path.{◌≡◌, sym, ap, subst, ◌∙◌}
use native.Mathlib.Nat.{eq-zero-or-pos, pow-succ', zero-mul}
use native.Mathlib.Numerals.{add-one}
use native.Mathlib.Omega.{arith}
use borrow.Author.Tests.{eq-eqb, ne_eqb}
use lib.Bits.{bit_and, and_high}
use lib.Dec.{eqb}
use lib.ListN.{length, get_or}
use lib.Pow.{pow_pos}
use Rattle.util.specs.Choose.{choose}
use Rattle.util.specs.Table.{Stored}
use Rattle.util.proofs.Fill.{below_or_not}
use Rattle.trellis.specs.Search.{came_by, trace_start}
use Rattle.pass.specs.Areas.{flag, packed}
use Rattle.butterfly.proofs.Bits.{flag-low, flag-high}
use Rattle.forward.specs.Follow.{Masks, Eight, had, Part, Followed, Starts}

-- ---- a decision in a number

and-power : (p n : ℕ) → bit_and p (2 ^ n) ≡ (p / 2 ^ n % 2) * 2 ^ n
and-power p n =
    let one : 1 + n ≡ suc n = omega arith in
    let e : 2 ^ (1 + n) - 2 ^ n ≡ 2 ^ n = omega (arith, ap (λ (i : ℕ). 2 ^ i) one, pow-succ' 2 n) in
    ap (bit_and p) (sym e) ∙ and_high p 1 n

-- what a mask of one bit chooses
masked : (p n a b : ℕ) → choose (eqb (bit_and p (2 ^ n)) 0) a b ≡ choose (flag p n) b a
masked p n a b =
    ⊎_elim
    (λ q.
    let z : bit_and p (2 ^ n) ≡ 0 = and-power p n ∙ ap (λ (i : ℕ). i * 2 ^ n) q ∙ zero-mul (2 ^ n) in
    ap (λ (t : Bool). choose t a b) (eq-eqb (bit_and p (2 ^ n)) 0 z)
    ∙ sym (ap (λ (t : Bool). choose t b a) (ne_eqb (p / 2 ^ n % 2) 1 (λ c. omega (arith, c, q)))))
    (λ q.
    let one : p / 2 ^ n % 2 ≡ 1 = omega (arith, q) in
    let z : bit_and p (2 ^ n) ≡ 2 ^ n = and-power p n ∙ ap (λ (i : ℕ). i * 2 ^ n) one ∙ omega arith in
    ap (λ (t : Bool). choose t a b) (ne_eqb (bit_and p (2 ^ n)) 0 (λ c. omega (arith, c, z, pow_pos n)))
    ∙ sym (ap (λ (t : Bool). choose t b a) (eq-eqb (p / 2 ^ n % 2) 1 one)))
    (eq-zero-or-pos (p / 2 ^ n % 2))

-- ---- eight states

-- the two that a state may have been reached from
had-is : (from : List ℕ) (t : Bool) (s x y : ℕ) → x ≡ s / 2 → y ≡ (s + 16384) / 2 → choose t (get_or from y 0) (get_or from x 0) ≡ had from t s
had-is from true s x y ex ey = ap (λ (i : ℕ). get_or from i 0) ey
had-is from false s x y ex ey = ap (λ (i : ℕ). get_or from i 0) ex

module _ (from : List ℕ) (piece i : ℕ) {masks eight before after : List ℕ} where
  pub part_of : length before ≡ 16384 → Masks masks → Eight from (i * 4) masks piece eight → Stored 0 8 (i * 8) (λ k. get_or eight k 0) before after
      → Part from piece (i * 8) 8 before after
  part_of size powers known laid =
      record {
        size = laid.size ∙ size;
        done = λ b h.
            let x = i * 4 + b / 2 in
            let y = i * 4 + 8192 + b / 2 in
            laid.done b h ∙ known.at b h
            ∙ ap (λ (m : ℕ). choose (eqb (bit_and piece m) 0) (get_or from x 0) (get_or from y 0)) (powers.at b h)
            ∙ masked piece b (get_or from x 0) (get_or from y 0)
            ∙ had-is from (flag piece b) (i * 8 + b) x y (omega arith) (omega arith);
        kept = laid.kept;
      }

-- ---- parts put together

module _ (from : List ℕ) (p : ℕ) where
  -- n states by the low n decisions of a number
  part_low : (n z : ℕ) {old new : List ℕ} → Part from (p % 2 ^ n) z n old new → Part from p z n old new
  part_low n z part =
      record {
        size = part.size;
        done = λ b h. part.done b h ∙ ap (λ (t : Bool). had from t (z + b)) (flag-low p n b h);
        kept = part.kept;
      }

  -- m states, and n behind them by the decisions from m on
  part_join : (m n z : ℕ) {old mid new : List ℕ} → Part from p z m old mid → Part from (p / 2 ^ m) (z + m) n mid new → Part from p z (m + n) old new
  part_join m n z {new = new} one two =
      record {
        size = two.size;
        done = λ b h.
            ⊎_elim
            (λ q. two.kept (z + b) (omega (arith, q)) ∙ one.done b q)
            (λ q.
            let r = b - m in
            let place : m + r ≡ b = omega (arith, q) in
            let e : z + m + r ≡ z + b = omega (arith, q) in
            subst (λ (s : ℕ). get_or new s 0 ≡ had from (flag p b) s) e
            (two.done r (omega (arith, q, h)) ∙ ap (λ (t : Bool). had from t (z + m + r)) (flag-high p m r ∙ ap (flag p) place)))
            (below_or_not b m);
        kept = λ s h. two.kept s (omega arith) ∙ one.kept s h;
      }

-- the same part, its first state said in another way
at_place : {from : List ℕ} {p x z n : ℕ} {old new : List ℕ} → x ≡ z → Part from p x n old new → Part from p z n old new
at_place {from} {p} {n = n} {old} {new} e part = subst (λ (s : ℕ). Part from p s n old new) e part

-- four parts of eight are half a word
module _ (from : List ℕ) (p i : ℕ) {t0 t1 t2 t3 t4 : List ℕ} where
  pub half_of : Part from (p % 0x100) (4 * i * 8) 8 t0 t1 → Part from (p / 0x100 % 0x100) ((4 * i + 1) * 8) 8 t1 t2
      → Part from (p / 0x10000 % 0x100) ((4 * i + 2) * 8) 8 t2 t3 → Part from (p / 0x1000000) ((4 * i + 3) * 8) 8 t3 t4 → Part from p (i * 32) 32 t0 t4
  half_of a b c d =
      let a' = part_low from p 8 (i * 32) (at_place (omega arith) a) in
      let b' = part_low from (p / 2 ^ 8) 8 (i * 32 + 8) (at_place (omega arith) b) in
      let c' = part_low from (p / 2 ^ 16) 8 (i * 32 + 16) (at_place (omega arith) c) in
      part_join from p 24 8 (i * 32) (part_join from p 16 8 (i * 32) (part_join from p 8 8 (i * 32) a' b') c') (at_place (omega arith) d)

-- and two halves are a word
pub word_of : (from : List ℕ) (p w : ℕ) {t0 t1 t2 : List ℕ} → Part from (p % 0x100000000) (2 * w * 32) 32 t0 t1
    → Part from (p / 0x100000000) ((2 * w + 1) * 32) 32 t1 t2 → Part from p (w * 64) 64 t0 t2
word_of from p w a b = part_join from p 32 32 (w * 64) (part_low from p 32 (w * 64) (at_place (omega arith) a)) (at_place (omega arith) b)

-- the states of a word, as a step's decisions say them
pub by_word : (d from : List ℕ) (j w : ℕ) (old new : List ℕ) → Part from (get_or d (j * 256 + w) 0) (w * 64) 64 old new
    → (s : ℕ) → w * 64 ≤ s → s < w * 64 + 64 → get_or new s 0 ≡ had from (packed d j s) s
by_word d from j w old new part s lo hi =
    let i = s - w * 64 in
    let e : w * 64 + i ≡ s = omega arith in
    let q : w ≡ s / 64 = omega arith in
    let r : i ≡ s % 64 = omega arith in
    let f : flag (get_or d (j * 256 + w) 0) i ≡ packed d j s = λ k. flag (get_or d (j * 256 + q k) 0) (r k) in
    subst (λ (x : ℕ). get_or new x 0 ≡ had from (packed d j s) x) e
    (part.done i (omega arith) ∙ ap (λ (t : Bool). had from t (w * 64 + i)) f)

-- ---- step after step

came-below : (t : Bool) (s : ℕ) → s < 16384 → came_by 16384 t s / 2 < 16384
came-below true s h = omega arith
came-below false s h = omega arith

pub starts_more : (d : List ℕ) (j : ℕ) (from to : List ℕ) → Starts d j from → Followed d j from to → Starts d (j + 1) to
unfolding trace_start
starts_more d j from to known one =
    record {
      size = one.size;
      at = λ s h. rw add-one (one.at s h ∙ known.at (came_by 16384 (packed d j s) s / 2) (came-below (packed d j s) s h));
    }
