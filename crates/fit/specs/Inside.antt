-- Inside: the fit over blocks as points. Only contracts of inside functions cite what is here.
use Rattle.std.specs.Prelude.{◌≡◌, ℕ, ◌+◌, List, length, get_or, set, Float}
use Rattle.frame.specs.Format.{format_of}
use Rattle.blocks.specs.Inside.{point_of, origin, places_in, timings_in}
use Rattle.blocks.specs.declared.Block.{Block}
use Rattle.blocks.specs.declared.Point.{Point}
use Rattle.blocks.specs.declared.Gathered.{Gathered}
use Rattle.fit.specs.Fit.{sum_of, fit_of}

-- r is the sum of x over points, left to right from 0.0, whichever x the term's calls give
abbrev pub SumOver : (Point → Float → Type 0) → List Point → Float → Type 0
SumOver gives ps r =
    (x : Point → Float) → ((p : Point) (y : Float) → gives p y → y ≡ x p) → r ≡ sum_of (λ i. x (get_or ps i origin)) (length ps)

-- the drift of k gathered blocks and b
abbrev pub fitted_in : ℕ → Gathered → ℕ → Block → Float
fitted_in mode g k b =
    fit_of (format_of mode).symbol (k + 1) (places_in (set g.points k (point_of b))) (timings_in (set g.points k (point_of b)))
