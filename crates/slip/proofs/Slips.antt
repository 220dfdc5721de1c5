-- A slip has a single spelling: a lawful one is read back from its bytes, and no other string is read as it. Assumes nothing.
use Prim.Native.Nat.{ℕ, ◌^◌, ◌<◌}
use mathlib.Core.Bool.{Bool, true, false, not, true≢false, ◌&&◌, and-eq-true_iff}
use mathlib.Core.List.{List}
use mathlib.Core.Path.{◌≡◌, refl, sym, ap, subst, ◌∙◌}
use native.Mathlib.Nat.{mod-eq_of_lt}
use native.Mathlib.Omega.{arith}
use borrow.Author.Tests.{leb-true, ltb-true, eqb-true, lt-ltb, eq-eqb, not-false}
use lib.Dec.{T, eqb, leb, ltb}
use lib.Ieee.{binary32, fits, of_bits, to_bits}
use lib.Ieee.Bits.{of_bits-to_bits, to_bits-lt, is_true}
use lib.Ieee.Scale.{finite}
use lib.ListN.{length}
use Rattle.util.specs.Choose.{choose}
use Rattle.util.specs.Refusal.{Outcome, refused, accepted, afterwards}
use Rattle.util.proofs.Choose.{chosen, not_chosen, past-cause}
use Rattle.frame.specs.Format.{named, header_bits}
use Rattle.wire.specs.Bytes.{big, number_at}
use Rattle.wire.proofs.Bytes.{read_back}
use Rattle.slip.specs.Spelling.{field, outcome_value, spell}
use Rattle.slip.specs.Lawful.{pass_goes, lawful}
use Rattle.slip.specs.Slips.{writing, written, taken, same, is_slip, reading, Reads}
use Rattle.slip.specs.declared.Fields.{Fields}
use Rattle.slip.proofs.Strings.{same-is, is_same}

-- 44 bytes in all
pub forty-four : (f : Fields) → length (spell f) ≡ 44
unfolding spell field outcome_value big
forty-four f = refl

-- what a lawful slip's values are
pub record Values (f : Fields) : Type 0 where
  pub of-name : named f.mode f.kind ≡ true
  pub of_word : f.word < 2 ^ header_bits f.kind
  pub of-pass : pass_goes f.outcome f.pass ≡ true
  pub of-score : T (fits binary32 f.score)
  pub is_finite : finite f.score ≡ true
  pub of-start : f.start < 2 ^ 64
  pub of-segment : f.segment < 2 ^ 16

pub values : (f : Fields) → lawful f ≡ true → Values f
unfolding lawful
values f e =
    let one = (and-eq-true_iff (named f.mode f.kind) _).0 e in
    let two = (and-eq-true_iff (ltb f.word (2 ^ header_bits f.kind)) _).0 one.1 in
    let three = (and-eq-true_iff (pass_goes f.outcome f.pass) _).0 two.1 in
    let four = (and-eq-true_iff (fits binary32 f.score && finite f.score) _).0 three.1 in
    let score = (and-eq-true_iff (fits binary32 f.score) (finite f.score)).0 four.0 in
    let five = (and-eq-true_iff (ltb f.start (2 ^ 64)) (ltb f.segment (2 ^ 16))).0 four.1 in
    record {
      of-name = one.0;
      of_word = ltb-true _ _ two.0;
      of-pass = three.0;
      of-score = subst T (sym score.0) tt;
      is_finite = score.1;
      of-start = ltb-true _ _ five.0;
      of-segment = ltb-true _ _ five.1;
    }

pub from-values : (f : Fields) → Values f → lawful f ≡ true
unfolding lawful
from-values f v =
    rw (
      v.of-name,
      lt-ltb f.word (2 ^ header_bits f.kind) v.of_word,
      v.of-pass,
      is_true (fits binary32 f.score) v.of-score,
      v.is_finite,
      lt-ltb f.start (2 ^ 64) v.of-start,
      lt-ltb f.segment (2 ^ 16) v.of-segment,
    )

-- ---- reading a written slip gives it back

-- a mode, a kind, an outcome and a pass are bytes
small-name : (mode kind : ℕ) → named mode kind ≡ true → (mode < 256) × (kind < 256)
unfolding named
small-name mode kind e =
    let both = (and-eq-true_iff (leb mode 1) (leb kind 2)).0 e in
    (omega (arith, leb-true mode 1 both.0), omega (arith, leb-true kind 2 both.1))

small-pass : (outcome pass : ℕ) → pass_goes outcome pass ≡ true → (outcome < 256) × (pass < 256)
unfolding pass_goes
small-pass outcome pass e = by (eqb outcome 0) (eqb outcome 3) refl refl e
  where
    by : (t u : Bool) → eqb outcome 0 ≡ t → eqb outcome 3 ≡ u
        → choose t (leb 1 pass && leb pass 3) (choose u (leb 2 pass && leb pass 3) (leb outcome 2 && eqb pass 0)) ≡ true
        → (outcome < 256) × (pass < 256)
    by true u z l e =
        let both = (and-eq-true_iff (leb 1 pass) (leb pass 3)).0 e in
        (omega (arith, eqb-true outcome 0 z), omega (arith, leb-true pass 3 both.1))
    by false true z l e =
        let both = (and-eq-true_iff (leb 2 pass) (leb pass 3)).0 e in
        (omega (arith, eqb-true outcome 3 l), omega (arith, leb-true pass 3 both.1))
    by false false z l e =
        let both = (and-eq-true_iff (leb outcome 2) (eqb pass 0)).0 e in
        (omega (arith, leb-true outcome 2 both.0), omega (arith, eqb-true pass 0 both.1))

small_word : (kind word : ℕ) → word < 2 ^ header_bits kind → word < 256 ^ 8
small_word kind word h = by (eqb kind 1) h
  where
    by : (t : Bool) → word < 2 ^ choose t 64 48 → word < 256 ^ 8
    by true h = h
    by false h = omega arith

pub taken_back : (f : Fields) → lawful f ≡ true → taken (spell f) ≡ f
unfolding taken spell field outcome_value big
taken_back f e =
    let v = values f e in
    let name = small-name f.mode f.kind v.of-name in
    let pass = small-pass f.outcome f.pass v.of-pass in
    let word : number_at (spell f) 11 8 ≡ f.word = read_back (spell f) 11 8 f.word refl (small_word f.kind f.word v.of_word) in
    let bits = to_bits binary32 f.score in
    let pattern : number_at (spell f) 24 4 ≡ bits = read_back (spell f) 24 4 bits refl (to_bits-lt binary32 f.score v.of-score) in
    let start : number_at (spell f) 31 8 ≡ f.start = read_back (spell f) 31 8 f.start refl v.of-start in
    let segment : number_at (spell f) 42 2 ≡ f.segment = read_back (spell f) 42 2 f.segment refl v.of-segment in
    λ i. record {
      mode = mod-eq_of_lt name.0 i;
      kind = mod-eq_of_lt name.1 i;
      word = word i;
      outcome = mod-eq_of_lt pass.0 i;
      pass = mod-eq_of_lt pass.1 i;
      score = (ap (of_bits binary32) pattern ∙ of_bits-to_bits binary32 f.score v.of-score) i;
      start = start i;
      segment = segment i;
    }

slip-spelt : (f : Fields) → lawful f ≡ true → is_slip (spell f) ≡ true
unfolding is_slip
slip-spelt f e =
    subst (λ (g : Fields). (lawful g && same (spell g) (spell f)) ≡ true) (sym (taken_back f e))
    ((and-eq-true_iff (lawful f) (same (spell f) (spell f))).1 (e, is_same (spell f) (spell f) refl))

pub read-spelt : (f : Fields) → lawful f ≡ true → reading (spell f) ≡ accepted f
read-spelt f e =
    not_chosen (refused 13) (accepted (taken (spell f))) (ap not (slip-spelt f e)) ∙ ap accepted (taken_back f e)

-- what the writer leaves in a buffer of 44 bytes is its spelling, and is read as what was written
pub written-lawful : (f : Fields) (out : List ℕ) → length out ≡ 44 → lawful f ≡ true → written f out ≡ spell f
written-lawful f out long e =
    let done : writing f (length out) ≡ accepted tt = rw (eq-eqb (length out) (length (spell f)) (long ∙ sym (forty-four f)), e) refl in
    ap (λ (o : Outcome Unit). afterwards o out (spell f)) done

pub read-written : (f : Fields) (out : List ℕ) → length out ≡ 44 → lawful f ≡ true → reading (written f out) ≡ accepted f
read-written f out long e = ap reading (written-lawful f out long e) ∙ read-spelt f e

-- ---- and nothing else is read

pub spelt-slip : (b : List ℕ) → is_slip b ≡ true → (lawful (taken b) ≡ true) × (spell (taken b) ≡ b)
unfolding is_slip
spelt-slip b e =
    let both = (and-eq-true_iff (lawful (taken b)) (same (spell (taken b)) b)).0 e in
    (both.0, same-is (spell (taken b)) b both.1)

pub length-slip : (b : List ℕ) → is_slip b ≡ true → length b ≡ 44
length-slip b e = sym (ap length (spelt-slip b e).1) ∙ forty-four (taken b)

-- the reader answers with the lawful slip that is spelt as the string, and with 13 where there is none
pub reads : (b : List ℕ) → Reads b (reading b)
reads b = by (is_slip b) refl
  where
    by : (t : Bool) → is_slip b ≡ t → Reads b (choose (not t) (refused 13) (accepted (taken b)))
    by true e = spelt-slip b e
    by false e = (refl, λ f l s. true≢false (sym (subst (λ (c : List ℕ). is_slip c ≡ true) s (slip-spelt f l)) ∙ e))

-- so an answer tells whether the string is a slip
pub is_read : (b : List ℕ) (f : Fields) → accepted f ≡ reading b → is_slip b ≡ true
is_read b f e = not-false (is_slip b) (past-cause (not (is_slip b)) 13 (accepted (taken b)) f (sym e)).0

pub not-read : (b : List ℕ) (k : ℕ) → refused k ≡ reading b → is_slip b ≡ false
not-read b k e = by (is_slip b) e
  where
    by : (t : Bool) → refused k ≡ choose (not t) (refused 13) (accepted (taken b)) → t ≡ false
    by true e = let never : ◌≡◌ {A = ℕ} 0 1 = cc in absurd (omega arith)
    by false e = refl

-- which says all: no other answer is so
pub reads_only : (b : List ℕ) (o : Outcome Fields) → Reads b o → o ≡ reading b
reads_only b (accepted f) (l, s) = sym (subst (λ (c : List ℕ). reading c ≡ accepted f) s (read-spelt f l))
reads_only b (refused k) (e, none) = by (is_slip b) refl
  where
    by : (t : Bool) → is_slip b ≡ t → ◌≡◌ {A = Outcome Fields} (refused k) (choose (not t) (refused 13) (accepted (taken b)))
    by true s = let both = spelt-slip b s in absurd (none (taken b) both.0 both.1)
    by false s = ap refused e

-- so no two strings are one slip
pub one-spelling : (b c : List ℕ) (f : Fields) → reading b ≡ accepted f → reading c ≡ accepted f → b ≡ c
one-spelling b c f p q =
    let first : Reads b (accepted f) = subst (Reads b) p (reads b) in
    let second : Reads c (accepted f) = subst (Reads c) q (reads c) in
    sym first.1 ∙ second.1

-- ---- each return of the reader

never : (t : Bool) → (t ≡ true → ⊥) → t ≡ false
never true h = absurd (h refl)
never false h = refl

refuses : (b : List ℕ) → (lawful (taken b) ≡ true → spell (taken b) ≡ b → ⊥) → refused 13 ≡ reading b
refuses b h = sym (chosen (refused 13) (accepted (taken b)) (ap not (never (is_slip b) (λ e. let both = spelt-slip b e in h both.0 both.1))))

pub not-forty-four : (b : List ℕ) → (length b ≡ 44 → ⊥) → refused 13 ≡ reading b
not-forty-four b h = refuses b (λ l s. h (sym (ap length s) ∙ forty-four (taken b)))

pub not-lawful : (b : List ℕ) → lawful (taken b) ≡ false → refused 13 ≡ reading b
not-lawful b h = refuses b (λ l s. true≢false (sym l ∙ h))

pub not-spelt : (b : List ℕ) → (spell (taken b) ≡ b → ⊥) → refused 13 ≡ reading b
not-spelt b h = refuses b (λ l s. h s)

pub answered : (b : List ℕ) → lawful (taken b) ≡ true → spell (taken b) ≡ b → accepted (taken b) ≡ reading b
answered b l s = reads_only b (accepted (taken b)) (l, s)
