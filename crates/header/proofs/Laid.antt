-- The search over the list of a header's metrics, step by step: it is document 01's over the terms. Assumes nothing.
use Prim.Native.Nat.{ℕ, ◌+◌, ◌*◌, ◌%◌, ◌<◌, ◌≤◌}
use mathlib.Core.List.{List}
use mathlib.Core.Path.{◌≡◌, refl, sym, ap, ap₂, ◌∙◌}
use native.Mathlib.Nat.{mul-le-mul_left}
use native.Mathlib.Omega.{arith}
use lib.Dec.{lit≤}
use lib.Ieee.{Float, nan}
use lib.ListN.{length, take}
use lib.Seq.{length-take-le, get_or-take}
use Rattle.frame.specs.Format.{header_bits}
use Rattle.frame.proofs.Air.{header-most, header-least, header-even}
use Rattle.conv.specs.Label.{label_of}
use Rattle.conv.proofs.Linear.{label-lt}
use Rattle.trellis.specs.Search.{How, Found, search, ceiling}
use Rattle.trellis.specs.Numbers.{single}
use Rattle.trellis.specs.Terms.{header, lent}
use Rattle.trellis.proofs.Alike.{Same, reach, search-alike, ceiling-alike}
use Rattle.pass.specs.Areas.{table, steps_in, over}
use Rattle.search.specs.Lent.{Lent}
use Rattle.search.proofs.Passes.{same}
use Rattle.steps.specs.Rows.{Rows}
use Rattle.header.specs.Read.{Room, areas}

-- two words found in the same way are the same
found-same : (a b : Found Float) → Same ◌≡◌ a b → a ≡ b
found-same a b s =
    ap (λ (h : How). record { how = h; word = a.word; score = a.score }) s.how
    ∙ ap₂ (λ (w : ℕ) (x : Float). record { how = b.how; word = w; score = x }) s.word s.score

-- n is how many steps a header of this kind has
module _ (mode kind : ℕ) (terms list : List Float) (rows : Rows mode kind terms (header_bits kind) list) (size : length list ≡ 2048)
    (n : ℕ) (all : n ≡ header_bits kind) where
  -- the steps' part of the list
  abbrev part : List Float
  part = take (32 * n) list

  pub part_length : length part ≡ 32 * n
  part_length = length-take-le (32 * n) list (omega (arith, header-most kind))

  part-steps : steps_in part ≡ header_bits kind
  part-steps = omega (arith, part_length)

  -- what the search is lent
  pub part-lent : {scores next start : List Float} {decisions : List ℕ} → Room kind (areas scores next start decisions) → Lent part scores next start decisions
  part-lent room =
      record {
        steps = record {
          whole = omega (arith, part_length, part-steps);
          few = omega (arith, part-steps, header-most kind);
          some = omega (arith, part-steps, header-least kind);
          even = ap (λ (k : ℕ). k % 2) part-steps ∙ header-even kind;
        };
        of-scores = room.of-scores;
        of-next = room.of-next;
        of-start = room.of-start;
        of-decisions = room.of-decisions ∙ ap (λ (k : ℕ). k * 256) (sym part-steps);
      }

  -- and hands back
  pub lent-room : {scores next start : List Float} {decisions : List ℕ} → Lent part scores next start decisions → Room kind (areas scores next start decisions)
  lent-room lent =
      record {
        of-scores = lent.of-scores;
        of-next = lent.of-next;
        of-start = lent.of-start;
        of-decisions = lent.of-decisions ∙ ap (λ (k : ℕ). k * 256) part-steps;
      }

  -- its trellis earns what the header's does
  earns : (j r : ℕ) → j < header_bits kind → r < 16384 + 16384 → table part (j * 32 + label_of r) ≡ (header single mode kind (lent terms)).earn j r
  earns j r h l =
      let place : j * 32 + label_of r ≡ 32 * j + label_of r = omega arith in
      let inside : 32 * j + label_of r < 32 * n = omega (arith, label-lt r, mul-le-mul_left 32 h) in
      ap (table part) place ∙ get_or-take (32 * n) list (32 * j + label_of r) nan inside ∙ rows.at j h (label_of r) (label-lt r)

  room : reach (header_bits kind * 0) 3 ≤ 0
  unfolding reach
  room = omega arith

  pub ceiling-same : ceiling (over part) ≡ ceiling (header single mode kind (lent terms))
  ceiling-same =
      ap (λ (m : ℕ). ceiling (record { scale = single; states = 16384; steps = m; earn = (over part).earn })) part-steps
      ∙ ceiling-alike (same single) 16384 (header_bits kind) 0 refl (lit≤ tt) (over part).earn (header single mode kind (lent terms)).earn earns room

  pub search-same : search (over part) ≡ search (header single mode kind (lent terms))
  search-same =
      ap (λ (m : ℕ). search (record { scale = single; states = 16384; steps = m; earn = (over part).earn })) part-steps
      ∙ found-same _ _
      (search-alike (same single) 16384 (header_bits kind) 0 refl (lit≤ tt) (over part).earn (header single mode kind (lent terms)).earn earns room)
