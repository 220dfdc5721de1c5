-- `noise::two_errors` meets its contract: each count's error was made by a call at that count. Assumes nothing.
use Rattle.std.proofs.Common.{rules, ◌≡◌, ℕ, ◌≤◌, ap, arith}
use Rattle.root_table.proofs.Entries.{entry}
use Rattle.noise.specs.Local.{two, two_errors}
use lib.Ieee.{Float, nan, binary32, div, of_bits}
use Rattle.util.proofs.Made.{made}
use Rattle.noise.proofs.two_errors.Goals as goal

pub returns : goal.returns
unfolding two_errors of_bits
returns c =
    let roots = c.roots-roots in
    record {
      size = c.from_fn.ensures.items.long;
      each = λ n l h. made _ _ (λ (k : ℕ) (y : Float). 1 ≤ k → y ≡ two_errors k) _
          (λ k y q l e. (λ p. let here = ap (div binary32 two) (entry roots.result k roots.ensures.worked_out p (omega arith)) in search (rules, here), search rules))
          c.from_fn.ensures.items n nan (omega arith) l;
    }
