-- The slice has the gathered points and b's. Assumes nothing.
use Rattle.std.proofs.Common.{rules}
use Prim.Native.Nat.{◌+◌}
use mathlib.Core.Path.{◌∙◌}
use lib.ListN.{set}
use Rattle.fit.proofs.Same.{of_first}
use Rattle.fit.proofs.fit_with.Goals as goal

pub returns : goal.returns
returns c =
    let fitted = c.fit_points.ensures ∙ of_first c.symbol.result (c.args.k + 1) (set c.args.g.points c.args.k c.point.result) (search rules) in
    simp (fitted, c.symbol.ensures, c.point.ensures)
