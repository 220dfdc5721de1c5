-- A call by what is gathered is the call: the answer is the same, and where it is accepted the listed blocks were gathered, so that the drift is.
-- Assumes nothing.
use Prim.Native.Nat.{ℕ, ◌+◌, ◌<◌}
use mathlib.Core.List.{List}
use mathlib.Core.Path.{◌≡◌, refl, sym, ap, ◌∙◌}
use native.Mathlib.Nat.{ne_of_lt}
use native.Mathlib.Omega.{arith}
use borrow.Author.Count.{below_more}
use borrow.Author.Tests.{le-leb}
use lib.IntN.{ℤ}
use lib.ListN.{length, get_or, set}
use lib.Seq.{get_or-set_same, get_or-set_other}
use Rattle.util.specs.Refusal.{Outcome, refused, accepted, afterwards, number_of, meaning}
use Rattle.util.specs.declared.refusal.Refusal.{Refusal}
use Rattle.std.specs.Prelude.{Result, Ok, Err}
use Rattle.frame.specs.Format.{format_of}
use Rattle.blocks.specs.Blocks.{nowhere, half, place2_at, timing_at}
use Rattle.blocks.specs.Inside.{origin, point_of, Gathers}
use Rattle.blocks.specs.declared.Block.{Block}
use Rattle.blocks.specs.declared.Gathered.{Gathered}
use Rattle.blocks.specs.declared.Point.{Point}
use Rattle.fit.specs.Fit.{good_blocks}
use Rattle.fit.specs.Inside.{fitted_in}
use Rattle.fit.proofs.Same.{fit_same}
use Rattle.tracker.specs.Rule.{places_kept, track_answer}
use Rattle.tracker.specs.Inside.{Readable}
use Rattle.tracker.specs.declared.Sample.{Sample}
use Rattle.tracker.specs.declared.Tracker.{Tracker}
use Rattle.tracker.proofs.Accepted.{accepted-says, after_same}
use Rattle.tracker.proofs.Answers.{listed, few, answers}
use Rattle.call.specs.Call.{moved, stored_of, fitted_of, call, put_at, pushed_onto}
use Rattle.call.specs.Inside.{Steps, call_in, giving}
use Rattle.drift.specs.Entry.{tracker_after, shifts_after, blocks_after}
use Rattle.drift.specs.Inside.{Called}
use Rattle.call.specs.declared.Moved.{Moved}

module _ (mode : ℕ) (t : Tracker) (shifts : List ℤ) (bs : List Block) (s : Sample) (k : ℕ) (g : Gathered) (read : Readable mode t (length bs) k)
    (so : Gathers bs k g) where
  -- ---- the drift with a further block
  fits : Gathers bs t.blocks g → t.blocks < 64 → length bs ≡ 64 → (b : Block) → fitted_in mode g t.blocks b ≡ fitted_of mode t bs b
  fits all h l b =
      fit_same (format_of mode).symbol (t.blocks + 1) _ (λ i. half (place2_at (set bs t.blocks b) i)) _ (timing_at (set bs t.blocks b))
      (λ i less. ap (λ (q : Point). q.place) (each i less)) (λ i less. ap (λ (q : Point). q.timing) (each i less))
    where
      each : (i : ℕ) → i < t.blocks + 1 → get_or (set g.points t.blocks (point_of b)) i origin ≡ point_of (get_or (set bs t.blocks b) i nowhere)
      each =
          below_more (λ (i : ℕ). get_or (set g.points t.blocks (point_of b)) i origin ≡ point_of (get_or (set bs t.blocks b) i nowhere)) t.blocks
          (λ i less. get_or-set_other g.points t.blocks i (point_of b) origin (ne_of_lt less) ∙ all.points i less
          ∙ sym (ap point_of (get_or-set_other bs t.blocks i b nowhere (ne_of_lt less))))
          (get_or-set_same g.points t.blocks (point_of b) origin (omega (arith, all.long))
          ∙ sym (ap point_of (get_or-set_same bs t.blocks b nowhere (omega arith))))

  calls : track_answer mode t shifts bs s ≡ accepted tt → call_in mode t shifts g s ≡ call mode t shifts bs s
  calls e =
      let ok = accepted-says mode t shifts (length bs) s (places_kept mode t bs) (good_blocks t.blocks bs) e in
      let c = le-leb _ _ ok.count in
      let each = fits (listed mode t shifts bs s k g read so ok.calls c ok.many) (few mode t shifts bs s k g read so ok.calls c) ok.many in
      λ i. moved mode t (stored_of t shifts) s (λ b. each b i)

  -- under one outcome, with what is made where it accepts
  giving-same : {B : Type 0} (o o' : Outcome Unit) (u v : B) → o ≡ o' → (o' ≡ accepted tt → u ≡ v) → giving o u ≡ giving o' v
  giving-same o (refused j) u v e h = ap (λ (z : Outcome Unit). giving z u) e
  giving-same o (accepted tt) u v e h = ap (λ (z : Outcome Unit). giving z u) e ∙ ap accepted (h refl)

  -- `step` by what is gathered is the public entry
  pub called_of : (r : Result Moved Refusal) (last : List ℤ) → Steps mode t shifts (length bs) g s r last → Called mode t shifts bs s r last
  called_of r last did =
      record {
        answer = did.answer ∙ giving-same _ _ _ _ (answers mode t shifts bs s k g read so) calls;
        stored = did.stored ∙ after_same _ _ shifts _ _ (answers mode t shifts bs s k g read so) (λ e. refl);
        has_room = did.has_room;
      }

-- ---- what a call that is handed back says, refused or done
module _ (mode : ℕ) (t : Tracker) (shifts : List ℤ) (bs : List Block) (s : Sample) (r : Result Moved Refusal) (last : List ℤ)
    (did : Called mode t shifts bs s r last) where
  pub was-refused : (e : Refusal) → r ≡ Err e → track_answer mode t shifts bs s ≡ refused (number_of e)
  was-refused e is = by (track_answer mode t shifts bs s) (sym (ap meaning is) ∙ did.answer)
    where
      by : (o : Outcome Unit) → refused (number_of e) ≡ giving o (call mode t shifts bs s) → o ≡ refused (number_of e)
      by (refused k) h = let same : number_of e ≡ k = cc in ap refused (sym same)
      by (accepted tt) h = let z : ◌≡◌ {A = ℕ} 0 1 = cc in absurd (omega arith)

  pub was-done : (m : Moved) → r ≡ Ok m → (track_answer mode t shifts bs s ≡ accepted tt) × (m ≡ call mode t shifts bs s)
  was-done m is = by (track_answer mode t shifts bs s) (sym (ap meaning is) ∙ did.answer)
    where
      by : (o : Outcome Unit) → accepted m ≡ giving o (call mode t shifts bs s) → (o ≡ accepted tt) × (m ≡ call mode t shifts bs s)
      by (refused k) h = let z : ◌≡◌ {A = ℕ} 0 1 = cc in absurd (omega arith)
      by (accepted tt) h = (refl, cc)

  abbrev made : Moved
  made = call mode t shifts bs s

  -- what is lent, at exit
  pub left-refused : (e : Refusal) → r ≡ Err e → (r' : Result Unit Refusal) → meaning r' ≡ refused (number_of e)
      → (meaning r' ≡ track_answer mode t shifts bs s) × (t ≡ tracker_after mode t shifts bs s)
      × (last ≡ shifts_after mode t shifts bs s) × (bs ≡ blocks_after mode t shifts bs s)
  left-refused e is r' h =
      let was = sym (was-refused e is) in (
        h ∙ was,
        ap (λ (o : Outcome Unit). afterwards o t made.tracker) was,
        did.stored,
        ap (λ (o : Outcome Unit). afterwards o bs (pushed_onto t bs made)) was,
      )

  pub left-done : (m : Moved) → r ≡ Ok m → (bs' : List Block) → bs' ≡ put_at bs t.blocks m.pushed
      → (accepted tt ≡ track_answer mode t shifts bs s) × (m.tracker ≡ tracker_after mode t shifts bs s)
      × (last ≡ shifts_after mode t shifts bs s) × (bs' ≡ blocks_after mode t shifts bs s)
  left-done m is bs' put =
      let (was, same) = was-done m is in (
        sym was,
        ap (λ (n : Moved). n.tracker) same ∙ ap (λ (o : Outcome Unit). afterwards o t made.tracker) (sym was),
        did.stored,
        put ∙ ap (pushed_onto t bs) same ∙ ap (λ (o : Outcome Unit). afterwards o bs (pushed_onto t bs made)) (sym was),
      )
