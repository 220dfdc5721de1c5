-- `noise::listen` meets its contract: a row that there is comes in as it is held, another as missing. Assumes nothing.
use Prim.Native.Nat.{ℕ, ◌+◌, ◌-◌}
use Rattle.frame.proofs.Air.{some-bins, hop-below}
use Rattle.frame.specs.Air.{hop_of}
use Rattle.frame.specs.Format.{format_of}
use Rattle.noise.proofs.Shown.{numbered-in, numbered-out, held-is}
use lib.Ieee.{Float}
use Rattle.nearby.specs.Inside.{Nearby}
use Rattle.noise.specs.Inside.{numbered}
use Rattle.noise.specs.Local.{burst, held}
use mathlib.Core.Logic.{inr}
use mathlib.Core.List.{List}
use mathlib.Core.Path.{◌≡◌, sym, ap, ◌∙◌, subst}
use native.Mathlib.Omega.{arith}
use Rattle.noise.proofs.listen.Goals as goal

pub hear-requires : goal.hear-requires
hear-requires c =
    let pre = c.requires in
    let a = c.args in
    let bins = some-bins a.mode in
    let h = hop-below (format_of a.mode).bins (c.header_symbols.result + a.t) (omega (arith, bins.0)) in (
      omega (arith, c.bins.ensures, bins.0),
      omega (arith, c.bins.ensures, bins.1),
      omega (arith, c.bins.ensures, c.hop-h.ensures, h),
      omega (arith, pre.0.energies-long),
      pre.0.noise-long,
    )

pub returns-then-t-rows : goal.returns-then-t-rows
returns-then-t-rows c =
    let a = c.args in
    let heard = burst a.mode a.kind a.rows a.energies.now a.noise.now in
    let bins = (format_of a.mode).bins in
    let own : a.t + 25 - 25 ≡ a.t = omega arith in
    let h = c.hop-h.ensures ∙ ap (λ (n : ℕ). hop_of bins (n + a.t)) c.header_symbols.ensures in
    c.hear.ensures.on (numbered heard)
    (λ b l. numbered-in heard b (a.t + 25) (omega arith) (omega arith) ∙ ap (λ (n : ℕ). held heard n b) own
    ∙ held-is heard a.t b _ _ c.bins.ensures h)
    c.requires.2

pub returns-else-t-rows : goal.returns-else-t-rows
returns-else-t-rows c =
    let a = c.args in
    let heard = burst a.mode a.kind a.rows a.energies.now a.noise.now in
    let passed = c.pass_over.ensures in
    let on = (passed.moved a.last.now.values).on (numbered heard) (λ b l. numbered-out heard b (a.t + 25) (inr (omega arith))) c.requires.2 in
    subst (λ (values : List Float). Nearby (numbered heard) (a.t + 1) c.pass_over.new.self.marks values) (sym passed.kept) on
