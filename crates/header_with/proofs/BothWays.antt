-- Document 02, #111: both ways of reading give equal answers and leave equal areas, where the lent table keeps to the parity rule; so does
-- the table that `fill_labels` leaves. Assumes nothing.
use Prim.Native.Nat.{ℕ}
use mathlib.Core.Bool.{true, and-true}
use mathlib.Core.List.{List}
use mathlib.Core.Path.{◌≡◌, ap}
use borrow.Author.Tests.{eq-eqb}
use lib.Ieee.{Float}
use lib.ListN.{length}
use Rattle.util.specs.Refusal.{Outcome}
use Rattle.labels.specs.Labels.{all_labels, labelled}
use Rattle.labels.proofs.Kept.{filled-length, filled-labelled}
use Rattle.trellis.specs.Answer.{Answer}
use Rattle.header.specs.Read.{Areas, lengths_right, header_read, area_after}
use Rattle.header_with.specs.With.{header_read_with}

module _ (mode kind : ℕ) (terms : List Float) (w : Areas) where
  pub both_ways : (labels : List ℕ) → length labels ≡ 32768 → labelled labels ≡ true
      → header_read_with mode kind terms labels w ≡ header_read mode kind terms w
  both_ways labels size kept =
      let five = lengths_right kind (length terms) (length w.scores) (length w.next) (length w.start) (length w.decisions) in
      simp (eq-eqb (length labels) 32768 size, kept, and-true five)

  -- each area at exit, by the entries' promises
  pub areas-both-ways : {A : Type 0} (nil : A) (area : List A) (labels : List ℕ) → length labels ≡ 32768 → labelled labels ≡ true
      → area_after (header_read_with mode kind terms labels w) nil area ≡ area_after (header_read mode kind terms w) nil area
  areas-both-ways nil area labels size kept = ap (λ (o : Outcome (Answer Float)). area_after o nil area) (both_ways labels size kept)

  -- with the table as it is filled
  pub filled-both-ways : header_read_with mode kind terms all_labels w ≡ header_read mode kind terms w
  filled-both-ways = both_ways all_labels filled-length filled-labelled
