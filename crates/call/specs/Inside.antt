-- Inside: a call of the tracker by what is gathered of its blocks (crate `blocks`). Only contracts of inside functions cite what is here.
use Rattle.std.specs.Prelude.{ℕ, ◌≤◌, ◌<◌, List, ◌≡◌, ℤ, pos, nat_abs, length, get_or, Result, Ok}
use Rattle.util.specs.Refusal.{Outcome, refused, accepted, meaning, afterwards}
use Rattle.util.specs.declared.refusal.Refusal.{Refusal}
use Rattle.blocks.specs.declared.Gathered.{Gathered}
use Rattle.fit.specs.Inside.{fitted_in}
use Rattle.tracker.specs.Inside.{answer_in}
use Rattle.tracker.specs.declared.Sample.{Sample}
use Rattle.tracker.specs.declared.Tracker.{Tracker}
use Rattle.call.specs.Call.{moved, stored_of}
use Rattle.call.specs.declared.Moved.{Moved}

-- what a call makes, by what is gathered
abbrev pub call_in : ℕ → Tracker → List ℤ → Gathered → Sample → Moved
call_in mode t shifts g s = moved mode t (stored_of t shifts) s (fitted_in mode g t.blocks)

-- where a call that is accepted starts from, once its shift is stored
pub record Ready (t : Tracker) (stored : List ℤ) : Type 0 where
  pub calls : t.n < 2048
  pub count : t.blocks < 64
  pub shift : nat_abs t.shift ≤ 2048
  pub long : length stored ≡ 2048
  pub small : (j : ℕ) → j < t.n → nat_abs (get_or stored j (pos 0)) ≤ 2048

-- an answer with what an accepted call makes
abbrev pub giving : {B : Type 0} → Outcome Unit → B → Outcome B
giving (refused k) made = refused k
giving (accepted tt) made = accepted made

-- what one call hands back, and the shifts at exit. A block of an accepted call has room.
pub record Steps (mode : ℕ) (t : Tracker) (shifts : List ℤ) (room : ℕ) (g : Gathered) (s : Sample) (r : Result Moved Refusal) (last : List ℤ) : Type 0 where
  pub answer : meaning r ≡ giving (answer_in mode t shifts room g s) (call_in mode t shifts g s)
  pub stored : last ≡ afterwards (answer_in mode t shifts room g s) shifts (stored_of t shifts)
  pub has_room : (m : Moved) → r ≡ Ok m → t.blocks < room
