-- `slip::outcome_value` meets its contract: numbers side by side are one number. Assumes nothing.
use Prim.Native.Nat.{ℕ, ◌+◌, ◌*◌, ◌^◌, ◌<◌}
use mathlib.Core.List.{List, ◌++◌}
use mathlib.Core.Path.{◌≡◌, sym, ap, subst, ◌∙◌}
use native.Mathlib.Omega.{arith}
use lib.Dec.{T}
use lib.Ieee.{binary32, to_bits}
use Rattle.ieee.proofs.Order.{finite-not-nan}
use Rattle.ieee.proofs.Values.{pattern-below}
use Rattle.wire.specs.Bytes.{big}
use Rattle.wire.proofs.Bytes.{big_both}
use Rattle.slip.specs.Spelling.{outcome_value}
use Rattle.slip.proofs.outcome_value.Goals as goal

together : (outcome pass n : ℕ) → pass < 256 → n < 4294967296
    → big 6 (1099511627776 * outcome + 4294967296 * pass + n) ≡ big 1 outcome ++ big 1 pass ++ big 4 n
together outcome pass n p q =
    let one : 1099511627776 * outcome + 4294967296 * pass + n ≡ (outcome * 256 ^ 1 + pass) * 256 ^ 4 + n = omega arith in
    ap (big 6) one
    ∙ big_both 2 4 (outcome * 256 ^ 1 + pass) n q
    ∙ ap (λ (l : List ℕ). l ++ big 4 n) (big_both 1 1 outcome pass p)

pub float_to_bits-score : goal.float_to_bits-score
float_to_bits-score c = finite-not-nan c.args.score (subst T (sym c.requires) tt)

pub overflow_add-result-2 : goal.overflow_add-result-2
overflow_add-result-2 c =
    record {
      fits = omega (
        arith,
        pattern-below c.args.score c.well_formed.1.1.0.1,
        c.ranges.outcome.fits,
        c.ranges.pass.fits,
        c.from.ensures,
        c.from-2.ensures,
        c.from-3.ensures,
      );
    }

pub returns : goal.returns
unfolding outcome_value
returns c =
    (λ i. big 6 (1099511627776 * c.from.ensures i + 4294967296 * c.from-2.ensures i + c.from-3.ensures i))
    ∙ together c.args.outcome c.args.pass (to_bits binary32 c.args.score) c.ranges.pass.fits (pattern-below c.args.score c.well_formed.1.1.0.1)
