-- A sum over points grows by a point at its end. Assumes nothing.
use mathlib.Core.List.{List, [], ◌∷◌, ◌++◌}
use mathlib.Core.Path.{◌≡◌, sym, ap, ◌∙◌}
use Prim.Native.Nat.{ℕ}
use lib.Ieee.{Float, binary64, add}
use lib.ListN.{length, get_or, length-append, get_or-append}
use lib.Seq.{get_or_at}
use Rattle.ieee.specs.Whole.{plus_zero}
use Rattle.ieee.proofs.Folds.{run-same, run-further}
use Rattle.blocks.specs.Doubles.{◌⊕◌}
use Rattle.blocks.specs.Inside.{origin}
use Rattle.blocks.specs.declared.Point.{Point}
use Rattle.fit.specs.Fit.{sum_of}

pub one_more : (x : Point → Float) (ps : List Point) (p : Point) (a : Float) → a ≡ sum_of (λ i. x (get_or ps i origin)) (length ps)
    → a ⊕ x p ≡ sum_of (λ i. x (get_or (ps ++ (p ∷ [])) i origin)) (length (ps ++ (p ∷ [])))
one_more x ps p a e =
    ap (λ (y : Float). a ⊕ y) (sym last)
    ∙ run-further (add binary64) plus_zero longer (length ps) (e ∙ run-same (add binary64) plus_zero _ longer (length ps)
    (λ i h. ap x (sym (get_or-append ps (p ∷ []) origin i h))))
    ∙ ap (sum_of longer) (sym (length-append ps (p ∷ [])))
  where
    longer : ℕ → Float
    longer i = x (get_or (ps ++ (p ∷ [])) i origin)

    last : longer (length ps) ≡ x p
    last = ap x (get_or_at ps p [] origin (length ps) (λ i. length ps))
