-- Of a count only one f32 is nearest: of two, the middle between them would lie both above √n and below it. Assumes nothing.
use Prim.Native.Nat.{ℕ, ◌*◌, ◌<◌}
use mathlib.Core.Bool.{not}
use mathlib.Core.Path.{◌≡◌, ap, subst₂}
use native.Mathlib.Nat.{add_comm, mul_comm, lt_irrefl, lt_trans}
use lib.Dec.{T, not_T}
use lib.Ieee.{Float, binary32, lt}
use lib.Ieee.Positive.{num, den, positive-finite}
use Rattle.ieee.proofs.Order.{not-lt→le, le-le→eq, finite-not-nan, positive-le, positive-plain}
use Rattle.ieee.proofs.Values.{equal}
use Rattle.root.specs.Root.{both, NearestRoot}

-- of two that are nearest neither is below the other
module _ (n : ℕ) (x y : Float) (r : NearestRoot n x) (s : NearestRoot n y) where
  not-below : T (not (lt x y))
  not-below =
      not_T (lt x y) (λ h.
      let D = den x * den y in
      let above : 4 * n * (D * D) < both x y * both x y = r.greater y s.held (positive-finite y s.above) h in
      let below : both y x * both y x < 4 * n * (den y * den x * (den y * den x)) =
      s.lesser x r.held (positive-finite x r.above) (positive-le x r.above) h in
      lt_irrefl (4 * n * (D * D)) (lt_trans above (subst₂ ◌<◌ (ap (λ (k : ℕ). k * k) (add_comm (num y * den x) (num x * den y)))
      (ap (λ (k : ℕ). 4 * n * (k * k)) (mul_comm (den y) (den x))) below)))

pub only : (n : ℕ) (x y : Float) → NearestRoot n x → NearestRoot n y → x ≡ y
only n x y r s =
    let p = finite-not-nan x (positive-finite x r.above) in
    let q = finite-not-nan y (positive-finite y s.above) in
    equal binary32 x y r.held s.held (positive-plain x r.above) (positive-plain y s.above)
    (le-le→eq x y (not-lt→le y x q p (not-below n y x s r)) (not-lt→le x y p q (not-below n x y r s)))
