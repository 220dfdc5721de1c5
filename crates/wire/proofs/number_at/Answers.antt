-- `wire::number_at` meets its contract. Assumes nothing.
use Prim.Native.Nat.{ℕ, ◌+◌, ◌-◌, ◌*◌, ◌^◌, ◌≤◌, ◌<◌}
use mathlib.Core.List.{List}
use mathlib.Core.Path.{◌≡◌, refl, ap, ◌∙◌, subst}
use native.Mathlib.Omega.{arith}
use native.Mathlib.Nat.{pow-suc, pow-le-pow_right}
use native.Mathlib.Numerals.{add-one}
use lib.Dec.{lit<}
use lib.ListN.{length, get_or, take, drop, length-drop}
use lib.Seq.{length-take-le, get_or-take, get_or-drop}
use Rattle.wire.specs.Bytes.{high_first, number_at}
use Rattle.wire.proofs.Bytes.{digit-more}
use Rattle.wire.proofs.number_at.Goals as goal

-- one byte more is a factor of 256 more
wider : (k : ℕ) → 256 ^ (k + 1) ≡ 256 ^ k * 256
wider k = ap (λ (n : ℕ). 256 ^ n) (add-one k) ∙ pow-suc 256 k

-- and with it the sum is still held by eight bytes
room : (k s : ℕ) → k < 8 → s < 256 ^ k → 256 * s + 256 ≤ 256 ^ 8
room k s h l = omega (arith, wider k, pow-le-pow_right {n = 256} (lit< tt) {i = k + 1} {j = 8} (omega arith))

-- the bytes that are read: how many, and each by its place
module _ (b : List ℕ) (at width : ℕ) (h : at + width ≤ length b) where
  abbrev part : List ℕ
  part = take (at + width - at) (drop at b)

  all : at + width - at ≡ width
  all = omega arith

  long : length part ≡ width
  long =
      ap (λ (m : ℕ). length (take m (drop at b))) all
      ∙ length-take-le width (drop at b) (omega (arith, length-drop at b))

  its : (i : ℕ) → i < width → get_or part i 0 ≡ get_or b (at + i) 0
  its i less = get_or-take (at + width - at) (drop at b) i 0 (omega (arith, less)) ∙ get_or-drop at b i 0

-- a place below the part's end is one of the width
module _ (b : List ℕ) (at width : ℕ) (h : (at + width ≤ length b) × (width ≤ 8)) (k : ℕ) (test : k < length (part b at width h.0)) where
  below : k < width
  below = subst (λ (n : ℕ). k < n) (long b at width h.0) test

  one : get_or (part b at width h.0) k 0 ≡ get_or b (at + k) 0
  one = its b at width h.0 k below

  held : (s : ℕ) → s < 256 ^ k → 256 * s + 256 ≤ 256 ^ 8
  held s less = room k s (omega (arith, below, h.1)) less

pub loop-byte-init : goal.loop-byte-init
unfolding high_first
loop-byte-init c = (refl, omega arith)

pub overflow_mul-sum : goal.overflow_mul-sum
overflow_mul-sum c =
    let a = c.args in
    let l = c.loop-byte in
    record { fits = omega (arith, held a.bytes.now a.at a.width c.requires l.byte-index c.loop-byte-test.true l.sum l.invariant.1) }

pub overflow_add-sum : goal.overflow_add-sum
overflow_add-sum c =
    let a = c.args in
    let l = c.loop-byte in
    let byte = c.type_inv.bytes (a.at + l.byte-index) in
    let is = c.from.ensures ∙ one a.bytes.now a.at a.width c.requires l.byte-index c.loop-byte-test.true in
    omega (arith, held a.bytes.now a.at a.width c.requires l.byte-index c.loop-byte-test.true l.sum l.invariant.1, byte, is)

pub loop-byte-preserved : goal.loop-byte-preserved
loop-byte-preserved c =
    let a = c.args in
    let l = c.loop-byte in
    let byte = c.type_inv.bytes (a.at + l.byte-index) in
    let is = c.from.ensures ∙ one a.bytes.now a.at a.width c.requires l.byte-index c.loop-byte-test.true in (
      digit-more 256 (λ j. get_or a.bytes.now j 0) a.at l.byte-index l.sum c.from.result l.invariant.0 is,
      omega (arith, wider l.byte-index, l.invariant.1, byte, is),
    )

pub returns : goal.returns
returns c =
    let a = c.args in
    let l = c.loop-byte in
    let all : l.byte-index ≡ a.width =
    omega (arith, long a.bytes.now a.at a.width c.requires.0, c.loop-byte-test.false, l.auto.byte-index-end) in
    record {
      number = l.invariant.0 ∙ ap (number_at a.bytes.now a.at) all;
      most = subst (λ (n : ℕ). l.sum < 256 ^ n) all l.invariant.1;
    }
