-- The layouts. In a named one the CRC is document 01's from another start; layout 1 gives what document 01 gives; a mask of
-- another layout is never nothing. No two of the 48 starts are equal, by one test over them all; and since a CRC tells its
-- start, the same bits have the same CRC under no two of them. Assumes nothing.
use Prim.Native.Nat.{ℕ, ◌+◌, ◌*◌, ◌-◌, ◌/◌, ◌%◌, ◌^◌, ◌≤◌, ◌<◌}
use mathlib.Core.Bool.{true, false, not}
use mathlib.Core.List.{List}
use mathlib.Core.Path.{◌≡◌, refl, sym, ap, ap₂, subst, ◌∙◌}
use native.Mathlib.Omega.{arith}
use borrow.Author.Tests.{leb-false, ne_eqb, not-false}
use lib.Bits.{bit_or, bit_xor, or_step, xor_zero_r}
use lib.Dec.{leb, ltb}
use lib.ListN.{length, get_or, drop}
use Rattle.util.specs.Crc.{crc_of}
use Rattle.util.specs.Refusal.{Outcome, accepted, outcome}
use Rattle.util.specs.Some.{some_of}
use Rattle.util.specs.SplitMix.{xor_shift, next_state, output, first_output}
use Rattle.util.specs.Table.{tabled}
use Rattle.util.proofs.Choose.{not_chosen, past-cause, without-second}
use Rattle.util.proofs.Crc.{crc-back}
use Rattle.util.proofs.Fill.{tabled-at, tabled-length}
use Rattle.util.proofs.Distinct.{distinct, no-two}
use Rattle.util.proofs.Some.{none_of}
use Rattle.frame.specs.Format.{named, layout_named}
use Rattle.frame.specs.Crc.{base_start, mask_of, start_of, some_above_one, crc_answer}
use Rattle.frame.specs.Base.{base_causes, base_answer}
use Rattle.frame.proofs.Named.{mode-named, kind-named, layout-least, layout-most}

-- ---- layout 1 gives what it gave

-- in a named layout the causes are document 01's
pub answer-named : (mode kind k : ℕ) (bits : List ℕ) → layout_named k ≡ true
    → crc_answer mode kind k bits ≡ outcome (base_causes mode kind bits) (crc_of (start_of mode kind k) bits)
answer-named mode kind k bits known =
    without-second (record { holds = not (named mode kind); number = 1 }) (record { holds = not (layout_named k); number = 12 })
    (drop 1 (base_causes mode kind bits)) (crc_of (start_of mode kind k) bits) (ap not known)

-- layout 1 changes no start
pub full_start : (mode kind : ℕ) → start_of mode kind 1 ≡ base_start mode kind
unfolding start_of mask_of
full_start mode kind = xor_zero_r (base_start mode kind)

-- and gives what document 01 gives, of every input
pub full-band : (mode kind : ℕ) (bits : List ℕ) → crc_answer mode kind 1 bits ≡ base_answer mode kind bits
unfolding layout_named
full-band mode kind bits =
    answer-named mode kind 1 bits refl ∙ ap (λ (s : ℕ). outcome (base_causes mode kind bits) (crc_of s bits)) (full_start mode kind)

-- any other mask is odd, so it is not nothing
pub mask-odd : (k : ℕ) → (k ≡ 1 → ⊥) → mask_of k % 2 ≡ 1
unfolding mask_of
mask-odd k other =
    let x = first_output (bit_xor 0x4C41_594F_5554 k) % 2 ^ 16 in
    ap (λ (m : ℕ). m % 2) (not_chosen 0 (bit_or x 1) (ne_eqb k 1 other)) ∙ omega (arith, or_step x 1)

-- ---- no two starts are equal

-- the 48 starts in a row: by mode, then by kind, then by layout
abbrev nth : ℕ → ℕ
nth i = start_of (i / 24) (i / 8 % 3) (i % 8 + 1)

abbrev row : List ℕ
row = tabled 48 nth

all-distinct : distinct row ≡ true
unfolding distinct tabled start_of base_start mask_of first_output output next_state xor_shift
all-distinct = refl

-- each has 16 bits
all_short : some_of (leb (2 ^ 16)) row ≡ false
unfolding tabled start_of base_start mask_of first_output output next_state xor_shift
all_short = refl

-- mode, kind and layout are those of a start
record Start (mode kind k : ℕ) : Type 0 where
  mode-is : mode ≤ 1
  kind-is : kind ≤ 2
  least : 1 ≤ k
  most : k ≤ 8

start : (mode kind k : ℕ) → named mode kind ≡ true → layout_named k ≡ true → Start mode kind k
start mode kind k one two =
    record { mode-is = mode-named mode kind one; kind-is = kind-named mode kind one; least = layout-least k two; most = layout-most k two }

-- its place in the row
abbrev at : ℕ → ℕ → ℕ → ℕ
at mode kind k = 24 * mode + (8 * kind + (k - 1))

module _ (mode kind k : ℕ) (s : Start mode kind k) where
  at-below : at mode kind k < 48
  at-below = omega (arith, s.mode-is, s.kind-is, s.most)

  -- which tells all three
  parts : (at mode kind k / 24 ≡ mode) × (at mode kind k / 8 % 3 ≡ kind) × (at mode kind k % 8 + 1 ≡ k)
  parts =
      let few = s.kind-is in
      let low = s.least in
      let high = s.most in
      (omega arith, omega arith, omega arith)

  in_row : get_or row (at mode kind k) 0 ≡ start_of mode kind k
  in_row =
      let i = at mode kind k in
      tabled-at 48 i nth 0 at-below
      ∙ ap (λ (x : ℕ). start_of x (i / 8 % 3) (i % 8 + 1)) parts.0 ∙ ap₂ (λ (x y : ℕ). start_of mode x y) parts.1 parts.2

  start-short : start_of mode kind k < 2 ^ 16
  start-short =
      let long : length row ≡ 48 = tabled-length 48 nth in
      let short = none_of (leb (2 ^ 16)) row 0 all_short (at mode kind k) (omega (arith, long, at-below)) in
      subst (λ (x : ℕ). x < 2 ^ 16) in_row (leb-false (2 ^ 16) (get_or row (at mode kind k) 0) short)

pub starts-differ : (mode kind k mode' kind' k' : ℕ) → named mode kind ≡ true → layout_named k ≡ true → named mode' kind' ≡ true
    → layout_named k' ≡ true → start_of mode kind k ≡ start_of mode' kind' k' → (mode ≡ mode') × (kind ≡ kind') × (k ≡ k')
starts-differ mode kind k mode' kind' k' one layout other layout' e =
    let s = start mode kind k one layout in
    let s' = start mode' kind' k' other layout' in
    let i = at mode kind k in
    let j = at mode' kind' k' in
    let long : length row ≡ 48 = tabled-length 48 nth in
    let same : get_or row i 0 ≡ get_or row j 0 = in_row mode kind k s ∙ e ∙ sym (in_row mode' kind' k' s') in
    let before : i < j → ⊥ = λ h. no-two row i j all-distinct h (omega (arith, long, at-below mode' kind' k' s')) same in
    let after : j < i → ⊥ = λ h. no-two row j i all-distinct h (omega (arith, long, at-below mode kind k s)) (sym same) in
    let place : i ≡ j = omega (arith, before, after) in
    let own = parts mode kind k s in
    let its = parts mode' kind' k' s' in (
      sym own.0 ∙ ap (λ (x : ℕ). x / 24) place ∙ its.0,
      sym own.1 ∙ ap (λ (x : ℕ). x / 8 % 3) place ∙ its.1,
      sym own.2 ∙ ap (λ (x : ℕ). x % 8 + 1) place ∙ its.2,
    )

-- ---- so the same bits have the same CRC under no two

-- what an answer says of the call
answered : (mode kind k : ℕ) (bits : List ℕ) (c : ℕ) → crc_answer mode kind k bits ≡ accepted c
    → (named mode kind ≡ true) × (layout_named k ≡ true) × (some_above_one bits ≡ false) × (crc_of (start_of mode kind k) bits ≡ c)
answered mode kind k bits c e =
    let one = past-cause (not (named mode kind)) 1 _ c e in
    let two = past-cause (not (layout_named k)) 12 _ c one.1 in
    let three = past-cause (ltb 1024 (length bits)) 4 _ c two.1 in
    let four = past-cause (some_above_one bits) 5 _ c three.1 in
    let value : ◌≡◌ {A = Outcome ℕ} (accepted (crc_of (start_of mode kind k) bits)) (accepted c) = four.1 in
    (not-false _ one.0, not-false _ two.0, four.0, cc)

pub one-crc : (mode kind k mode' kind' k' : ℕ) (bits : List ℕ) (c : ℕ) → crc_answer mode kind k bits ≡ accepted c
    → crc_answer mode' kind' k' bits ≡ accepted c → (mode ≡ mode') × (kind ≡ kind') × (k ≡ k')
one-crc mode kind k mode' kind' k' bits c e e' =
    let a = answered mode kind k bits c e in
    let b = answered mode' kind' k' bits c e' in
    starts-differ mode kind k mode' kind' k' a.0 a.1 b.0 b.1
    (crc-back (start_of mode kind k) (start_of mode' kind' k') bits (start-short mode kind k (start mode kind k a.0 a.1))
    (start-short mode' kind' k' (start mode' kind' k' b.0 b.1)) a.2 (a.3 ∙ sym b.3))
