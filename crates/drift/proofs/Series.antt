-- Over any series of samples from a fresh tracker |shift| stays within 137 in R0 and 69 in R1, and while fewer than 2,048 calls are accepted
-- none is refused with 9 or 10.
-- The invariant (`Kept`): the rule is kept and the listed blocks are good. Each kind of call keeps it: it only counts, it goes on within a
-- block, or it ends one, with nothing heard or with a block pushed.
-- Assumes nothing.
use Prim.Native.Nat.{ℕ, zero, suc, ◌+◌, ◌-◌, ◌*◌, ◌/◌, ◌%◌, ◌≤◌, ◌<◌}
use mathlib.Core.Bool.{Bool, true, false, not, ◌&&◌, ◌||◌, and-eq-true_iff}
use mathlib.Core.List.{List, [], ◌∷◌}
use mathlib.Core.Logic.{⊎_elim}
use mathlib.Core.Path.{◌≡◌, refl, sym, ap, ◌∙◌, subst⁻¹}
use native.Mathlib.Nat.{le_trans, ne_of_lt, not-suc-le-zero, eq-or-lt_of_le}
use native.Mathlib.Omega.{arith}
use borrow.Author.Count.{below_more}
use borrow.Author.Tests.{leb-true, le-leb, ltb-true, ltb-false, eqb-true, eqb-false}
use lib.Dec.{leb, ltb, eqb}
use lib.IntN.{ℤ, pos, nat_abs}
use lib.Ieee.{Float, neg, lt}
use lib.ListN.{length, get_or, set, length-set}
use lib.Seq.{get_or-set_same, get_or-set_other}
use Rattle.std.specs.Prelude.{None, Some}
use Rattle.ieee.specs.Whole.{plus_zero}
use Rattle.ieee.specs.Within.{Within}
use Rattle.util.specs.Choose.{choose}
use Rattle.util.specs.Refusal.{Outcome, refused, accepted, afterwards}
use Rattle.util.proofs.Choose.{by-case}
use Rattle.frame.specs.Format.{format_of}
use Rattle.util.specs.Every.{every}
use Rattle.blocks.specs.Doubles.{◌⊗◌, as_f64, within}
use Rattle.blocks.specs.Blocks.{nowhere, place2_at, timing_at, before, good_at}
use Rattle.fit.specs.Fit.{limit_of, good_blocks}
use Rattle.tracker.specs.Rule.{block_length, waiting, in_whole_blocks, count_kept, places_kept, drift_kept, sums_kept, shift_kept, rule, in_range, track_answer}
use Rattle.call.specs.Call.{unpushed, num_after, den_after, block_of, shift_after, followed, judged_of, moved, stored_of, fitted_of, call, pushed_onto}
use Rattle.drift.specs.Series.{Burst, begun, next, after, accepted_in, farthest}
use Rattle.blocks.specs.declared.Block.{Block}
use Rattle.call.specs.declared.Moved.{Moved}
use Rattle.tracker.specs.declared.Sample.{Sample}
use Rattle.tracker.specs.declared.Tracker.{Tracker}
use Rattle.util.proofs.Every.{every-at, every-same, every-all, every_true}
use Rattle.tracker.proofs.Further.{waiting-below, length-few, length-positive, count-below, kept-is}
use Rattle.tracker.proofs.Accepted.{accepted-says, all-passed, refused-eight}
use Rattle.tracker.proofs.Signs.{within_both}
use Rattle.blocks.proofs.Same.{good-same}
use Rattle.fit.proofs.Bounded.{fit-within, timing-upto, zero-within}
use Rattle.drift.proofs.Moves.{shift-held, farthest-small}
use Rattle.drift.proofs.Heard.{Sums, sums_none, sums-more, sums-kept, timing-within}

-- the rule, with what follows from a series' start
pub record Kept (mode : ℕ) (u : Burst) : Type 0 where
  pub long : length u.shifts ≡ 2048
  pub many : length u.blocks ≡ 64
  pub shift : nat_abs u.tracker.shift ≤ farthest mode
  pub stored : (j : ℕ) → j < u.tracker.n → nat_abs (get_or u.shifts j (pos 0)) ≤ 2048
  pub count : u.tracker.blocks ≤ in_whole_blocks mode u.tracker.n / block_length mode
  pub places : (i : ℕ) → i < u.tracker.blocks → place2_at u.blocks i ≤ 2 * in_whole_blocks mode u.tracker.n
  pub good : every u.tracker.blocks (good_at u.blocks) ≡ true
  pub drift : Within (neg (limit_of (format_of mode).symbol)) (limit_of (format_of mode).symbol) u.tracker.drift
  pub sums : Sums (waiting mode u.tracker.n) u.tracker.tnum u.tracker.tden

-- ---- counting symbols and blocks, for either block length
abbrev len : Bool → ℕ
len b = choose b 32 64

early : (b : Bool) (n : ℕ) → n + 1 < 3 → ((n + 1 - 2) % len b ≡ (n - 2) % len b) × (n + 1 - 2 - (n + 1 - 2) % len b ≡ n - 2 - (n - 2) % len b)
early true n h = (omega arith, omega arith)
early false n h = (omega arith, omega arith)

going : (b : Bool) (n : ℕ) → 2 ≤ n → (n - 2) % len b + 1 < len b → ((n + 1 - 2) % len b ≡ (n - 2) % len b + 1)
    × (n + 1 - 2 - (n + 1 - 2) % len b ≡ n - 2 - (n - 2) % len b)
going true n h l = (omega arith, omega arith)
going false n h l = (omega arith, omega arith)

record Ends (n wait wait' m m' size : ℕ) : Type 0 where
  pub none : wait' ≡ 0
  pub all : m' ≡ n - 2 + 1
  pub one : m + size ≡ n - 2 + 1
  pub blocks : m' / size ≡ m / size + 1

ending : (b : Bool) (n : ℕ) → 2 ≤ n → (n - 2) % len b + 1 ≡ len b
    → Ends n ((n - 2) % len b) ((n + 1 - 2) % len b) (n - 2 - (n - 2) % len b) (n + 1 - 2 - (n + 1 - 2) % len b) (len b)
ending true n h l = record { none = omega arith; all = omega arith; one = omega arith; blocks = omega arith }
ending false n h l = record { none = omega arith; all = omega arith; one = omega arith; blocks = omega arith }

-- ---- small things
before-most : (p : ℕ → ℕ) (i m : ℕ) → ((j : ℕ) → j < i → p j ≤ m) → before p i ≤ m
before-most p zero m h = omega arith
before-most p (suc j) m h = h j (omega arith)

module _ (mode : ℕ) (known : mode ≤ 1) (u : Burst) (left : u.tracker.n < 2048) (kp : Kept mode u) where
  abbrev t : Tracker
  t = u.tracker

  abbrev sh : List ℤ
  sh = u.shifts

  abbrev bs : List Block
  bs = u.blocks

  abbrev L : ℕ
  L = block_length mode

  near : nat_abs t.shift ≤ 2048
  near = le_trans kp.shift (farthest-small mode)

  few : t.blocks < 64
  few = omega (arith, kp.count, count-below mode t.n (omega (arith, left)))

  listed : good_blocks t.blocks bs ≡ true
  listed = λ i. le-leb t.blocks 64 (omega (arith, few)) i && kp.good i

  -- ---- the answer
  rule-kept : not (eqb t.n 2048 || not (rule mode t sh bs)) ≡ true
  rule-kept =
      kept-is t.n (count_kept mode t) (places_kept mode t bs) (drift_kept mode t) (sums_kept t) (shift_kept t.shift)
      (every t.n (λ j. shift_kept (get_or sh j (pos 0)))) left
      ∙ (λ i.
      le-leb t.blocks (in_whole_blocks mode t.n / L) kp.count i
      && (every-all (λ j. leb (place2_at bs j) (2 * in_whole_blocks mode t.n)) t.blocks (λ j h. le-leb _ _ (kp.places j h)) i
      && (within_both kp.drift i
      && (sums-kept (waiting mode t.n) (omega (arith, waiting-below mode t.n, length-few mode)) t kp.sums i && le-leb (nat_abs t.shift) 2048 near i)
      && every-all (λ j. shift_kept (get_or sh j (pos 0))) t.n (λ j h. le-leb _ _ (kp.stored j h)) i)))

  pub answered : (s : Sample) → track_answer mode t sh bs s ≡ choose (in_range s) (accepted tt) (refused 8)
  answered s = by (in_range s) refl
    where
      by : (b : Bool) → in_range s ≡ b → track_answer mode t sh bs s ≡ choose (in_range s) (accepted tt) (refused 8)
      by true e =
          all-passed mode t sh (length bs) s (places_kept mode t bs) (good_blocks t.blocks bs) known kp.long kp.many e rule-kept listed
          ∙ ap (λ (b : Bool). choose b (accepted tt) (refused 8)) (sym e)
      by false e =
          refused-eight mode t sh (length bs) s (places_kept mode t bs) (good_blocks t.blocks bs) known kp.long kp.many e
          ∙ ap (λ (b : Bool). choose b (accepted tt) (refused 8)) (sym e)

  -- ---- what the call makes
  abbrev stored : List ℤ
  stored = stored_of t sh

  stored-small : (j : ℕ) → j < t.n + 1 → nat_abs (get_or stored j (pos 0)) ≤ 2048
  stored-small =
      below_more (λ (j : ℕ). nat_abs (get_or stored j (pos 0)) ≤ 2048) t.n
      (λ j h. subst⁻¹ (λ (z : ℤ). nat_abs z ≤ 2048) (get_or-set_other sh t.n j t.shift (pos 0) (ne_of_lt h)) (kp.stored j h))
      (subst⁻¹ (λ (z : ℤ). nat_abs z ≤ 2048) (get_or-set_same sh t.n t.shift (pos 0) (omega (arith, left, kp.long))) near)

  abbrev made : Moved → Burst
  made m = record { tracker = m.tracker; shifts = stored; blocks = pushed_onto t bs m }

  abbrev Made : Moved → Type 0
  Made m = Kept mode (made m) × (m.tracker.n ≡ t.n + 1)

  long-stored : length stored ≡ 2048
  long-stored = length-set sh t.n t.shift ∙ kp.long

  -- the calls before the third
  counts : t.n + 1 < 3
      → Made (unpushed (record { n = t.n + 1; shift = t.shift; tnum = t.tnum; tden = t.tden; drift = t.drift; blocks = t.blocks }))
  counts h =
      let e = early (eqb mode 0) t.n h in (
        record {
          long = long-stored;
          many = kp.many;
          shift = kp.shift;
          stored = stored-small;
          count = subst⁻¹ (λ (m : ℕ). t.blocks ≤ m / L) e.1 kp.count;
          places = λ i l. subst⁻¹ (λ (m : ℕ). place2_at bs i ≤ 2 * m) e.1 (kp.places i l);
          good = kp.good;
          drift = kp.drift;
          sums = subst⁻¹ (λ (w : ℕ). Sums w t.tnum t.tden) e.0 kp.sums;
        },
        refl,
      )

  module _ (s : Sample) (range : in_range s ≡ true) (late : 2 ≤ t.n) where
    abbrev num : Float
    num = num_after t s

    abbrev den : Float
    den = den_after t s

    heard : Sums (waiting mode t.n + 1) num den
    heard = sums-more (waiting mode t.n) (omega (arith, waiting-below mode t.n, length-few mode)) t kp.sums s range

    follows : (d : Float) → Within (neg (limit_of (format_of mode).symbol)) (limit_of (format_of mode).symbol) d
        → nat_abs (shift_after t.shift (d ⊗ as_f64 (t.n + 1))) ≤ farthest mode
    follows d w = shift-held mode t.shift d (t.n + 1) kp.shift w (omega (arith, left))

    -- within a block
    goes : waiting mode t.n + 1 < L → Made (record { tracker = followed t num den t.drift t.blocks; pushed = None })
    goes h =
        let e = going (eqb mode 0) t.n late h in (
          record {
            long = long-stored;
            many = kp.many;
            shift = follows t.drift kp.drift;
            stored = stored-small;
            count = subst⁻¹ (λ (m : ℕ). t.blocks ≤ m / L) e.1 kp.count;
            places = λ i l. subst⁻¹ (λ (m : ℕ). place2_at bs i ≤ 2 * m) e.1 (kp.places i l);
            good = kp.good;
            drift = kp.drift;
            sums = subst⁻¹ (λ (w : ℕ). Sums w num den) e.0 heard;
          },
          refl,
        )

    module _ (last : waiting mode t.n + 1 ≡ L) where
      e : Ends t.n (waiting mode t.n) (waiting mode (t.n + 1)) (in_whole_blocks mode t.n) (in_whole_blocks mode (t.n + 1)) L
      e = ending (eqb mode 0) t.n late last

      none_left : Sums (waiting mode (t.n + 1)) plus_zero plus_zero
      none_left = subst⁻¹ (λ (w : ℕ). Sums w plus_zero plus_zero) e.none sums_none

      -- a block ends with nothing heard
      empty : Made (record { tracker = followed t plus_zero plus_zero t.drift t.blocks; pushed = None })
      empty = (
        record {
          long = long-stored;
          many = kp.many;
          shift = follows t.drift kp.drift;
          stored = stored-small;
          count = omega (arith, kp.count, e.blocks);
          places = λ i l. omega (arith, kp.places i l, e.all, e.one);
          good = kp.good;
          drift = kp.drift;
          sums = none_left;
        },
        refl,
      )

      -- a block ends and is pushed
      abbrev b : Block
      b = block_of mode stored (t.n - 2) num den

      abbrev bs' : List Block
      bs' = set bs t.blocks b

      old : (i : ℕ) → i < t.blocks → get_or bs' i nowhere ≡ get_or bs i nowhere
      old i h = get_or-set_other bs t.blocks i b nowhere (ne_of_lt h)

      new : get_or bs' t.blocks nowhere ≡ b
      new = get_or-set_same bs t.blocks b nowhere (omega (arith, few, kp.many))

      place-old : (i : ℕ) → i < t.blocks → place2_at bs' i ≡ place2_at bs i
      place-old i h = ap (λ (c : Block). c.place2) (old i h)

      places' : (i : ℕ) → i < t.blocks + 1 → place2_at bs' i ≤ 2 * in_whole_blocks mode (t.n + 1)
      places' =
          below_more (λ (i : ℕ). place2_at bs' i ≤ 2 * in_whole_blocks mode (t.n + 1)) t.blocks
          (λ i h. omega (arith, place-old i h, kp.places i h, e.all, e.one))
          (omega (arith, ap (λ (c : Block). c.place2) new, e.all))

      good_old : (i : ℕ) → i < t.blocks → good_at bs' i ≡ good_at bs i
      good_old i h = good-same bs' bs i (λ j l. old j (omega arith))

      good_new : lt plus_zero den ≡ true → good_at bs' t.blocks ≡ true
      good_new p =
          let place = ap (λ (c : Block). c.place2) new in
          let rising : before (place2_at bs') t.blocks ≤ 2 * in_whole_blocks mode t.n = before-most (place2_at bs') t.blocks
          (2 * in_whole_blocks mode t.n) (λ j h. omega (arith, place-old j h, kp.places j h)) in
          let timed = timing-within mode stored (t.n - 2 + 1 - L) (waiting mode t.n + 1) num den (omega (arith, last, length-few mode)) heard p
          (λ j h. stored-small (t.n - 2 + 1 - L + j) (omega (arith, e.one))) in
          λ j. le-leb (before (place2_at bs') t.blocks) (place2_at bs' t.blocks) (omega (arith, place, rising, e.one, length-positive mode)) j
          && (le-leb (place2_at bs' t.blocks) 4096 (omega (arith, place, left)) j && (ap (λ (c : Block). within (as_f64 4096) c.timing) new ∙ timed) j)

      good' : lt plus_zero den ≡ true → every (t.blocks + 1) (good_at bs') ≡ true
      good' p = every_true (good_at bs') t.blocks (every-same (good_at bs') (good_at bs) t.blocks good_old ∙ kp.good) (good_new p)

      ranged : lt plus_zero den ≡ true → (i : ℕ) → i < t.blocks + 1 → (leb (place2_at bs' i) 4096 ≡ true) × (within (as_f64 4096) (timing_at bs' i) ≡ true)
      ranged p i h =
          (and-eq-true_iff (leb (place2_at bs' i) 4096) (within (as_f64 4096) (timing_at bs' i))).0
          ((and-eq-true_iff (leb (before (place2_at bs') i) (place2_at bs' i)) _).0 (every-at (good_at bs') (t.blocks + 1) i h (good' p))).1

      pushes : lt plus_zero den ≡ true
          → Made (record { tracker = followed t plus_zero plus_zero (fitted_of mode t bs b) (t.blocks + 1); pushed = Some b })
      pushes p =
          let fitted =
          fit-within mode (t.blocks + 1) (place2_at bs') (timing_at bs') (omega (arith, few)) (λ i h. leb-true _ _ (ranged p i h).0)
          (λ i h. timing-upto (timing_at bs' i) (ranged p i h).1) in (
            record {
              long = long-stored;
              many = length-set bs t.blocks b ∙ kp.many;
              shift = follows (fitted_of mode t bs b) fitted;
              stored = stored-small;
              count = omega (arith, kp.count, e.blocks);
              places = places';
              good = good' p;
              drift = fitted;
              sums = none_left;
            },
            refl,
          )

  -- ---- one call more
  moves : (s : Sample) → in_range s ≡ true → Made (call mode t sh bs s)
  unfolding moved judged_of
  moves s range =
      by-case Made (ltb (t.n + 1) 3) _ _ (λ h. counts (ltb-true (t.n + 1) 3 h)) (λ h.
      let late : 2 ≤ t.n = omega (arith, ltb-false (t.n + 1) 3 h) in
      by-case Made (eqb (waiting mode t.n + 1) L) _ _
      (λ l. let last = eqb-true (waiting mode t.n + 1) L l in by-case Made (lt plus_zero (den_after t s)) _ _ (pushes s range late last)
      (λ _. empty s range late last))
      (λ l. goes s range late
      (⊎_elim (λ e. absurd (eqb-false _ _ l e)) (λ h. h) (eq-or-lt_of_le {n = waiting mode t.n + 1} {m = L} (omega (arith, waiting-below mode t.n))))))

-- a call, accepted or refused: a refused one leaves all as it was
one_more : (mode : ℕ) → mode ≤ 1 → (u : Burst) (s : Sample) → Kept mode u
    → Kept mode (next mode u s) × ((next mode u s).tracker.n ≡ u.tracker.n + afterwards (track_answer mode u.tracker u.shifts u.blocks s) 0 1)
one_more mode known u s kp = by answer refl
  where
    answer : Outcome Unit
    answer = track_answer mode u.tracker u.shifts u.blocks s

    m : Moved
    m = call mode u.tracker u.shifts u.blocks s

    left : Outcome Unit → Burst
    left o =
        record {
          tracker = afterwards o u.tracker m.tracker;
          shifts = afterwards o u.shifts (stored_of u.tracker u.shifts);
          blocks = afterwards o u.blocks (pushed_onto u.tracker u.blocks m);
        }

    Goes : Outcome Unit → Type 0
    Goes o = Kept mode (left o) × ((left o).tracker.n ≡ u.tracker.n + afterwards o 0 1)

    by : (o : Outcome Unit) → answer ≡ o → Goes answer
    by (refused k) e = subst⁻¹ Goes e (kp, omega arith)
    by (accepted tt) e =
        let listed = good_blocks u.tracker.blocks u.blocks in
        let ok = accepted-says mode u.tracker u.shifts (length u.blocks) s (places_kept mode u.tracker u.blocks) listed e in
        subst⁻¹ Goes e (moves mode known u ok.calls kp s ok.range)

-- ---- a whole series
goes_on : (mode : ℕ) → mode ≤ 1 → (ss : List Sample) (u : Burst) → Kept mode u
    → Kept mode (after mode u ss) × ((after mode u ss).tracker.n ≡ u.tracker.n + accepted_in mode u ss)
unfolding after accepted_in
goes_on mode known [] u kp = (kp, omega arith)
goes_on mode known (s ∷ ss) u kp =
    let step = one_more mode known u s kp in
    let rest = goes_on mode known ss (next mode u s) step.0 in
    (rest.0, omega (arith, rest.1, step.1))

begins : (mode : ℕ) (shifts : List ℤ) (blocks : List Block) → length shifts ≡ 2048 → length blocks ≡ 64 → Kept mode (begun shifts blocks)
unfolding every
begins mode shifts blocks long many =
    record {
      long = long;
      many = many;
      shift = omega arith;
      stored = λ j h. absurd (not-suc-le-zero h);
      count = omega arith;
      places = λ i h. absurd (not-suc-le-zero h);
      good = refl;
      drift = zero-within mode;
      sums = subst⁻¹ (λ (w : ℕ). Sums w plus_zero plus_zero) (none (eqb mode 0)) sums_none;
    }
  where
    none : (b : Bool) → (0 - 2) % len b ≡ 0
    none true = omega arith
    none false = omega arith

module _ (mode : ℕ) (known : mode ≤ 1) (shifts : List ℤ) (blocks : List Block) (long : length shifts ≡ 2048) (many : length blocks ≡ 64)
    (ss : List Sample) where
  abbrev reached : Burst
  reached = after mode (begun shifts blocks) ss

  all : Kept mode reached × (reached.tracker.n ≡ 0 + accepted_in mode (begun shifts blocks) ss)
  all = goes_on mode known ss (begun shifts blocks) (begins mode shifts blocks long many)

  -- n counts the accepted calls
  pub calls-counted : reached.tracker.n ≡ accepted_in mode (begun shifts blocks) ss
  calls-counted = omega (arith, all.1)

  -- |shift| ≤ 137 in R0 and 69 in R1
  pub shift-bounded : nat_abs reached.tracker.shift ≤ farthest mode
  shift-bounded = all.0.shift

  -- while fewer than 2,048 calls are accepted none is refused with 9 or 10: the next one is accepted, or its sample is out of range
  pub never-refused : accepted_in mode (begun shifts blocks) ss < 2048 → (s : Sample)
      → track_answer mode reached.tracker reached.shifts reached.blocks s ≡ choose (in_range s) (accepted tt) (refused 8)
  never-refused h s = answered mode known reached (omega (arith, all.1)) all.0 s
