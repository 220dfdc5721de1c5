-- A call over two lists: what is handed back is what the entry leaves in each list. Assumes nothing.
use Prim.Native.Nat.{ℕ}
use mathlib.Core.List.{List, map}
use mathlib.Core.Path.{◌≡◌, refl, sym, ap, ◌∙◌}
use lib.IntN.{ℤ}
use lib.Ieee.{Float}
use lib.ListN.{length, set}
use Rattle.std.specs.Prelude.{Option, None, Some, Result, Ok, Err}
use Rattle.util.specs.Refusal.{Outcome, refused, accepted, meaning, number_of, afterwards}
use Rattle.util.specs.declared.refusal.Refusal.{Refusal}
use Rattle.blocks.specs.Lists.{blocks_of, places_of, timings_of}
use Rattle.blocks.specs.declared.Block.{Block}
use Rattle.blocks.proofs.Lists.{one-length, places-back, timings-back, map-set}
use Rattle.tracker.specs.Rule.{track_answer}
use Rattle.call.specs.Call.{call, stored_of, put_at, pushed_onto}
use Rattle.call.specs.declared.Moved.{Moved}
use Rattle.timing_face.specs.Lists.{track_over, LentAfter}
use Rattle.drift.specs.Inside.{Called}
use Rattle.tracker.specs.declared.Sample.{Sample}
use Rattle.tracker.specs.declared.Tracker.{Tracker}
use Rattle.drift.proofs.Called.{left-refused, left-done}

-- a field of a block, if there is one, at a place of a list
abbrev pub put_field : {A : Type 0} → (Block → A) → List A → ℕ → Option Block → List A
put_field f l at None = l
put_field f l at (Some b) = set l at (f b)

map-put : {A : Type 0} (f : Block → A) (bs : List Block) (at : ℕ) (o : Option Block) → map f (put_at bs at o) ≡ put_field f (map f bs) at o
map-put f bs at None = refl
map-put f bs at (Some b) = map-set f bs at b

module _ (mode : ℕ) (t : Tracker) (shifts : List ℤ) (ps : List ℕ) (ts : List Float) (s : Sample) where
  abbrev bs : List Block
  bs = blocks_of ps ts

  abbrev face : Outcome Unit
  face = track_over mode t shifts ps ts s

  abbrev made : List Block
  made = pushed_onto t bs (call mode t shifts bs s)

  -- a field of what is lent, at exit
  field-after : {A B : Type 0} (f : A → B) (o : Outcome Unit) (was new : A) → f (afterwards o was new) ≡ afterwards o (f was) (f new)
  field-after f (refused k) was new = refl
  field-after f (accepted tt) was new = refl

  module _ (e : length ts ≡ length ps) (r : Result Moved Refusal) (last : List ℤ) (did : Called mode t shifts bs s r last) where
    same : track_answer mode t shifts bs s ≡ face
    same = one-length mode ps ts (track_answer mode t shifts bs s) e

    -- one list at exit
    list-after : {A : Type 0} (f : Block → A) (was new : List A) (bs' : List Block) → map f bs ≡ was → new ≡ map f bs'
        → bs' ≡ afterwards (track_answer mode t shifts bs s) bs made → new ≡ afterwards face was (map f made)
    list-after f was new bs' back wrote left =
        wrote ∙ ap (map f) left ∙ field-after (map f) (track_answer mode t shifts bs s) bs made
        ∙ (λ i. afterwards (same i) (back i) (map f made))

    left : (o : Outcome Unit) (t' : Tracker) (bs' : List Block) (ps' : List ℕ) (ts' : List Float) → ps' ≡ places_of bs' → ts' ≡ timings_of bs'
        → (o ≡ track_answer mode t shifts bs s) × (t' ≡ afterwards (track_answer mode t shifts bs s) t (call mode t shifts bs s).tracker)
        × (last ≡ afterwards (track_answer mode t shifts bs s) shifts (stored_of t shifts)) × (bs' ≡ afterwards (track_answer mode t shifts bs s) bs made)
        → (o ≡ face) × LentAfter mode t shifts ps ts s t' last ps' ts'
    left o t' bs' ps' ts' p q (answer, tracker, stored, put) = (
      answer ∙ same,
      record {
        of-tracker = tracker ∙ ap (λ (o : Outcome Unit). afterwards o t (call mode t shifts bs s).tracker) same;
        of-shifts = stored ∙ ap (λ (o : Outcome Unit). afterwards o shifts (stored_of t shifts)) same;
        of_places = list-after (λ (b : Block). b.place2) ps ps' bs' (places-back ps ts e) p put;
        of-timings = list-after (λ (b : Block). b.timing) ts ts' bs' (timings-back ps ts e) q put;
      },
    )

    -- refused: nothing is written
    pub lists-refused : (k : Refusal) → r ≡ Err k → (r' : Result Unit Refusal) → meaning r' ≡ refused (number_of k)
        → (meaning r' ≡ face) × LentAfter mode t shifts ps ts s t last ps ts
    lists-refused k is r' h =
        left (meaning r') t bs ps ts (sym (places-back ps ts e)) (sym (timings-back ps ts e)) (left-refused mode t shifts bs s r last did k is r' h)

    -- done: the call's block is put, if it pushes one
    pub lists-done : (m : Moved) → r ≡ Ok m → (ps' : List ℕ) (ts' : List Float) → ps' ≡ put_field (λ (b : Block). b.place2) ps t.blocks m.pushed
        → ts' ≡ put_field (λ (b : Block). b.timing) ts t.blocks m.pushed → (accepted tt ≡ face) × LentAfter mode t shifts ps ts s m.tracker last ps' ts'
    lists-done m is ps' ts' p q =
        left (accepted tt) m.tracker (put_at bs t.blocks m.pushed) ps' ts'
        (p ∙ ap (λ (l : List ℕ). put_field (λ (b : Block). b.place2) l t.blocks m.pushed) (sym (places-back ps ts e))
        ∙ sym (map-put (λ (b : Block). b.place2) bs t.blocks m.pushed))
        (q ∙ ap (λ (l : List Float). put_field (λ (b : Block). b.timing) l t.blocks m.pushed) (sym (timings-back ps ts e))
        ∙ sym (map-put (λ (b : Block). b.timing) bs t.blocks m.pushed))
        (left-done mode t shifts bs s r last did m is (put_at bs t.blocks m.pushed) refl)
