-- `noise::make` meets its contract. Assumes nothing.
use Prim.Native.Nat.{ℕ, ◌+◌, ◌*◌}
use Rattle.noise.specs.Local.{burst, factor_at, factors_of}
use Rattle.util.specs.Table.{rows}
use lib.Ieee.{nan, of_bits}
use Rattle.util.proofs.Fill.{tabled-only}
use Rattle.noise.proofs.Shown.{numbered-as, begun}
use Rattle.noise.proofs.Bins.{rows_made}
use mathlib.Core.Path.{◌≡◌, ap, ◌∙◌, subst⁻¹}
use Rattle.nearby.specs.declared.LastRows.{LastRows}
use Rattle.nearby.specs.Inside.{Nearby}
use Rattle.noise.specs.Inside.{numbered}
use native.Mathlib.Omega.{arith}
use Rattle.noise.proofs.make.Goals as goal

pub listen_ahead-requires : goal.listen_ahead-requires
unfolding of_bits
listen_ahead-requires c =
    let a = c.args in
    let heard = numbered (burst a.mode a.kind a.rows a.energies.now a.noise.now) in
    (c.requires.0, subst⁻¹ (λ (last : LastRows). Nearby heard 0 last.marks last.values) c.none-last.ensures (begun (burst a.mode a.kind a.rows a.energies.now a.noise.now)))

pub loop-i-preserved : goal.loop-i-preserved
unfolding of_bits
loop-i-preserved c =
    let a = c.args in
    let heard = burst a.mode a.kind a.rows a.energies.now a.noise.now in
    let i = c.loop-i.i in
    let next : i + 12 + 1 ≡ i + 1 + 12 = omega arith in
    let here : i + 12 + 1 ≡ i + 13 = omega arith in
    let near = c.listen.ensures in
    let put = c.put_factors.ensures heard
    (record {
      nearby = numbered-as here near;
      there = omega arith;
      read_is = ap (λ (n : ℕ). n + 4) c.bins.ensures;
      less-is = c.median_errors-less.ensures;
    })
    c.two_errors-errors.ensures in (
      omega arith,
      numbered-as next near,
      put.stored.size ∙ c.loop-i.invariant.2,
      rows_made heard a.empty i c.loop-i.factors _ put c.loop-i.invariant.3,
    )

pub returns : goal.returns
unfolding factors_of
returns c =
    let inv = c.loop-i.invariant in
    let a = c.args in
    let heard = burst a.mode a.kind a.rows a.energies.now a.noise.now in
    tabled-only (52 * a.rows) (rows 52 (factor_at heard a.empty)) nan c.loop-i.factors inv.2 (λ k h. inv.3 k (omega arith))
