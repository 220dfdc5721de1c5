-- `burst_file::verdict::erased_count` meets its contract. Assumes nothing.
use Prim.Native.Nat.{ℕ, ◌+◌}
use mathlib.Core.Bool.{Bool}
use mathlib.Core.Path.{◌≡◌, refl, sym, ap, ap₂, ◌∙◌}
use native.Mathlib.Omega.{arith}
use native.Mathlib.Numerals.{add-one}
use lib.ListN.{get_or}
use Rattle.util.specs.Choose.{choose}
use Rattle.symbol.specs.Symbol.{erased_of}
use Rattle.burst_file.specs.Verdict.{count_of}
use Rattle.burst_file.proofs.verdict.erased_count.Goals as goal

next : (has : ℕ → Bool) (i n r : ℕ) (b : Bool) → b ≡ has i → n ≡ count_of has i → r ≡ choose b (n + 1) n → r ≡ count_of has (i + 1)
unfolding count_of
next has i n r b e f g = g ∙ ap₂ (λ (t : Bool) (x : ℕ). choose t (x + 1) x) e f ∙ ap (count_of has) (sym (add-one i))

pub loop-i-init : goal.loop-i-init
unfolding count_of
loop-i-init c = (omega arith, refl, omega arith)

pub loop-i-preserved : goal.loop-i-preserved
loop-i-preserved c =
    let a = c.args in
    let has : ℕ → Bool = λ k. erased_of a.layout a.window (get_or a.counts.now k 0) in (
      omega arith,
      next has c.loop-i.i c.loop-i.n c.more-n.result c.erased.result c.erased.ensures c.loop-i.invariant.1 c.more-n.ensures.count,
      omega (arith, c.more-n.ensures.most),
    )
