-- What `step` starts from, and what it hands back, refused or done: by the outcome. Assumes nothing.
use Prim.Native.Nat.{ℕ, ◌<◌}
use mathlib.Core.Bool.{Bool}
use mathlib.Core.List.{List}
use mathlib.Core.Path.{◌≡◌, sym, ap, ◌∙◌}
use native.Mathlib.Nat.{ne_of_lt}
use native.Mathlib.Omega.{arith}
use borrow.Author.Tests.{leb-true}
use lib.IntN.{ℤ, pos}
use lib.ListN.{length-set}
use lib.Seq.{get_or-set_other}
use Rattle.util.specs.Refusal.{Outcome, accepted, afterwards}
use Rattle.util.proofs.Every.{every-at}
use Rattle.tracker.proofs.Accepted.{Accepted}
use Rattle.tracker.proofs.Further.{count-below}
use Rattle.call.specs.Call.{stored_of}
use Rattle.tracker.specs.Inside.{answer_in}
use Rattle.call.specs.Inside.{call_in, giving, Ready, Steps}
use Rattle.blocks.specs.declared.Gathered.{Gathered}
use Rattle.call.specs.declared.Moved.{Moved}
use Rattle.tracker.specs.declared.Sample.{Sample}
use Rattle.tracker.specs.declared.Tracker.{Tracker}
use Rattle.std.specs.Prelude.{Ok}

-- an accepted call starts from where it is ready
pub ready : (mode : ℕ) (t : Tracker) (shifts : List ℤ) (room : ℕ) (s : Sample) (places good : Bool) → Accepted mode t shifts room s places good
    → Ready t (stored_of t shifts)
ready mode t shifts room s places good a =
    record {
      calls = a.calls;
      count = omega (arith, a.count, count-below mode t.n (omega (arith, a.calls)));
      shift = leb-true _ _ a.shift;
      long = length-set shifts t.n t.shift ∙ a.long;
      small = λ j h. rw (get_or-set_other shifts t.n j t.shift (pos 0) (ne_of_lt h)) (leb-true _ _ (every-at _ t.n j h a.stored));
    }

module _ (mode : ℕ) (t : Tracker) (shifts : List ℤ) (room : ℕ) (g : Gathered) (s : Sample) where
  pub steps-done : (m : Moved) (last : List ℤ) → answer_in mode t shifts room g s ≡ accepted tt → m ≡ call_in mode t shifts g s
      → last ≡ stored_of t shifts → t.blocks < room → Steps mode t shifts room g s (Ok m) last
  steps-done m last e made stored few =
      record {
        answer = ap accepted made ∙ ap (λ (o : Outcome Unit). giving o (call_in mode t shifts g s)) (sym e);
        stored = stored ∙ ap (λ (o : Outcome Unit). afterwards o shifts (stored_of t shifts)) (sym e);
        has_room = λ m' is. few;
      }
