-- Blocks whose fields lie in two lists, as C lends them: an entry over blocks, told of two lists.
use Rattle.std.specs.Prelude.{ℕ, List, [], ◌∷◌, map, eqb, ltb, Float, length}
use Rattle.util.specs.Choose.{choose}
use Rattle.util.specs.Refusal.{Outcome, refused}
use Rattle.blocks.specs.declared.Block.{Block}

-- the blocks of two lists, and each list of blocks
unfoldable pub blocks_of : List ℕ → List Float → List Block
blocks_of [] ts = []
blocks_of (p ∷ ps) [] = []
blocks_of (p ∷ ps) (t ∷ ts) = (record { place2 = p; timing = t }) ∷ blocks_of ps ts

abbrev pub places_of : List Block → List ℕ
places_of = map (λ (b : Block). b.place2)

abbrev pub timings_of : List Block → List Float
timings_of = map (λ (b : Block). b.timing)

-- an answer over two lists: those of two lengths are refused by 4, after 1
abbrev pub over_lists : {A : Type 0} → ℕ → List ℕ → List Float → Outcome A → Outcome A
over_lists mode places timings o = choose (eqb (length places) (length timings)) o (refused (choose (ltb 1 mode) 1 4))
