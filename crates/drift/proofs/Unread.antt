-- 'The rest not read': shifts that agree on the first n and blocks that agree on the listed ones give one answer and one tracker, since the rule, the mean
-- of a block's shifts and the fit look no further. Assumes nothing.
use Prim.Native.Nat.{ℕ, ◌+◌, ◌-◌, ◌*◌, ◌≤◌, ◌<◌}
use mathlib.Core.Bool.{not, ◌&&◌, ◌||◌}
use mathlib.Core.List.{List}
use mathlib.Core.Path.{◌≡◌, refl, sym, ap, ◌∙◌}
use native.Mathlib.Nat.{ne_of_lt, mod-le}
use native.Mathlib.Omega.{arith}
use borrow.Author.Count.{below_more}
use borrow.Author.Tests.{ltb-false, eqb-true}
use lib.Dec.{leb, ltb, eqb}
use lib.IntN.{ℤ, pos, ◌+ℤ◌}
use lib.Ieee.{binary64, of_int}
use lib.ListN.{length, get_or, set}
use lib.Seq.{get_or-set_same, get_or-set_other}
use Rattle.ieee.proofs.Folds.{run-same}
use Rattle.util.specs.Choose.{choose}
use Rattle.util.specs.Refusal.{refused, accepted}
use Rattle.util.proofs.Choose.{choose-same}
use Rattle.frame.specs.Format.{format_of}
use Rattle.util.specs.Every.{every}
use Rattle.blocks.specs.Doubles.{◌⊕◌, ◌⊘◌, as_f64}
use Rattle.blocks.specs.Blocks.{nowhere, good_at}
use Rattle.blocks.specs.declared.Block.{Block}
use Rattle.util.proofs.Every.{every-same}
use Rattle.blocks.proofs.Same.{good-same}
use Rattle.fit.specs.Fit.{good_blocks}
use Rattle.fit.proofs.Same.{blocks-same}
use Rattle.tracker.specs.Rule.{block_length, waiting, in_whole_blocks, calls_kept, count_kept, places_kept, drift_kept, sums_kept, shift_kept, in_range, track_answer}
use Rattle.call.specs.Call.{num_after, den_after, mean_shift, mis_of, ended, judged_of, moved, stored_of, fitted_of, call}
use Rattle.drift.specs.Entry.{tracker_after}
use Rattle.call.specs.declared.Moved.{Moved}
use Rattle.tracker.specs.declared.Sample.{Sample}
use Rattle.tracker.specs.declared.Tracker.{Tracker}
use Rattle.tracker.proofs.Accepted.{Accepted, accepted-says, after_same}
use Rattle.tracker.proofs.Further.{count-below}

module _ (mode : ℕ) (t : Tracker) (sh sh' : List ℤ) (bs bs' : List Block) (s : Sample)
    (long : length sh ≡ length sh') (first : (j : ℕ) → j < t.n → get_or sh j (pos 0) ≡ get_or sh' j (pos 0))
    (many : length bs ≡ length bs') (listed : (i : ℕ) → i < t.blocks → get_or bs i nowhere ≡ get_or bs' i nowhere) where
  -- ---- the answer
  stored-kept : every t.n (λ j. shift_kept (get_or sh j (pos 0))) ≡ every t.n (λ j. shift_kept (get_or sh' j (pos 0)))
  stored-kept = every-same _ _ t.n (λ j h. ap shift_kept (first j h))

  places-kept : places_kept mode t bs ≡ places_kept mode t bs'
  places-kept = every-same _ _ t.blocks (λ i h. ap (λ (b : Block). leb b.place2 (2 * in_whole_blocks mode t.n)) (listed i h))

  all-good : every t.blocks (good_at bs) ≡ every t.blocks (good_at bs')
  all-good = every-same _ _ t.blocks (λ i h. good-same bs bs' i (λ j l. listed j (omega arith)))

  pub answer-same : track_answer mode t sh bs s ≡ track_answer mode t sh' bs' s
  answer-same = λ i.
      choose (ltb 1 mode) (refused 1) (choose (not (eqb (long i) 2048 && eqb (many i) 64)) (refused 4) (choose (not (in_range s)) (refused 8)
      (choose (eqb t.n 2048
      || not (calls_kept t && (count_kept mode t && (places-kept i && (drift_kept mode t && (sums_kept t && (shift_kept t.shift && stored-kept i)))))))
      (refused 9) (choose (not (leb t.blocks 64 && all-good i)) (refused 10) (accepted tt)))))

  -- ---- what an accepted call makes
  abbrev L : ℕ
  L = block_length mode

  stored : (j : ℕ) → j < t.n → get_or (stored_of t sh) j (pos 0) ≡ get_or (stored_of t sh') j (pos 0)
  stored j h = get_or-set_other sh t.n j t.shift (pos 0) (ne_of_lt h) ∙ first j h ∙ sym (get_or-set_other sh' t.n j t.shift (pos 0) (ne_of_lt h))

  -- a block that ends starts after the first call
  mean-same : waiting mode t.n + 1 ≡ L → 2 ≤ t.n → mean_shift mode (stored_of t sh) (t.n - 2 + 1 - L) ≡ mean_shift mode (stored_of t sh') (t.n - 2 + 1 - L)
  mean-same e h = λ i.
      of_int binary64 (run-same ◌+ℤ◌ (pos 0) _ _ L (λ j l. stored (t.n - 2 + 1 - L + j) (omega (arith, e, mod-le (t.n - 2) L))) i) ⊘ as_f64 L

  module _ (ok : track_answer mode t sh' bs' s ≡ accepted tt) where
    said : Accepted mode t sh' (length bs') s (places_kept mode t bs') (good_blocks t.blocks bs')
    said = accepted-says mode t sh' (length bs') s (places_kept mode t bs') (good_blocks t.blocks bs') ok

    few : t.blocks < length bs'
    few = omega (arith, said.count, said.many, count-below mode t.n (omega (arith, said.calls)))

    fitted-same : (b : Block) → fitted_of mode t bs b ≡ fitted_of mode t bs' b
    fitted-same b =
        blocks-same (format_of mode).symbol (t.blocks + 1) (set bs t.blocks b) (set bs' t.blocks b)
        (below_more (λ (i : ℕ). get_or (set bs t.blocks b) i nowhere ≡ get_or (set bs' t.blocks b) i nowhere) t.blocks
        (λ i h. get_or-set_other bs t.blocks i b nowhere (ne_of_lt h) ∙ listed i h ∙ sym (get_or-set_other bs' t.blocks i b nowhere (ne_of_lt h)))
        (get_or-set_same bs t.blocks b nowhere (omega (arith, few, many)) ∙ sym (get_or-set_same bs' t.blocks b nowhere few)))

    call_same : call mode t sh bs s ≡ call mode t sh' bs' s
    unfolding moved judged_of
    call_same =
        choose-same (ltb (t.n + 1) 3) _ _ _ _ (λ _. refl) (λ h.
        choose-same (eqb (waiting mode t.n + 1) L) _ _ _ _
        (λ l. λ i. ended t (den_after t s)
        (record {
          place2 = 2 * (t.n - 2) + 1 - L;
          timing = mean-same (eqb-true _ _ l) (omega (arith, ltb-false (t.n + 1) 3 h)) i ⊕ mis_of mode
              (num_after t s) (den_after t s);
        })
        (λ b. fitted-same b i))
        (λ _. refl))

  pub tracker-same : tracker_after mode t sh bs s ≡ tracker_after mode t sh' bs' s
  tracker-same = after_same _ _ t _ _ answer-same (λ e. ap (λ (m : Moved). m.tracker) (call_same e))
