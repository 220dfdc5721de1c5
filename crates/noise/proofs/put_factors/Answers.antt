-- `noise::put_factors` meets its contract, by those of its calls: the row put is that of the definition (`factors-are`). Assumes nothing.
use Prim.Native.Nat.{◌+◌}
use Rattle.nearby.proofs.Rows.{counted-few}
use Rattle.noise.proofs.Bins.{factors-are}
use mathlib.Core.List.{[]}
use mathlib.Core.Path.{◌∙◌}
use lib.Ieee.{nan}
use Rattle.noise.proofs.put_factors.Goals as goal

pub row-factors_of-requires : goal.row-factors_of-requires
row-factors_of-requires c =
    let a = c.args in
    let pre = c.requires in
    let counted = c.counts-counts.ensures [] in (
      c.sums-sums.ensures.size,
      counted.size,
      pre.2,
      pre.3,
      counted-few a.last.now.marks [] (a.i + 13) 25 _ counted,
    )

pub returns : goal.returns
returns c =
    let put = c.put_row.ensures nan in
    let row = c.row-factors_of.ensures.1 in
    let level = c.level-level.ensures in
    let counts = c.counts-counts.ensures in
    let sums = c.sums-sums.ensures in
    let pre = c.requires in
    let g = c.args in
    λ a ready errors.
    record {
      stored = record {
        size = put.stored.size;
        done = λ b h. put.stored.done b h
            ∙ factors-are a g.i g.last.now.marks g.last.now.values g.read g.less ready c.sums-sums.result g.errors.now c.row-factors_of.result
            c.counts-counts.result g.empty c.level-level.result pre.2 sums (counts g.last.now.values) errors level row b h;
        kept = put.stored.kept;
      };
      after = put.after;
    }
