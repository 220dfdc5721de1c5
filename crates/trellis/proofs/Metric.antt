-- From terms to the search, for any bin count to 48: where the terms of one list stand for those of another and are at most M large, the
-- metrics do so and are at most 5 M, and the two searches of a header say the same. Assumes nothing.
use Prim.Native.Nat.{ℕ, ◌+◌, ◌-◌, ◌*◌, ◌≤◌, ◌<◌}
use mathlib.Core.Path.{◌≡◌, refl}
use native.Mathlib.Nat.{le_trans, mul-le-mul_right}
use native.Mathlib.Omega.{arith}
use lib.Dec.{lit<}
use Rattle.frame.specs.Format.{format_of, header_bits}
use Rattle.frame.specs.Air.{hop_of, slot_of}
use Rattle.frame.proofs.Air.{some-bins, slot-within, header-most}
use Rattle.conv.specs.Label.{label_of}
use Rattle.model.specs.Metric.{term_at, metric_of}
use Rattle.model.proofs.Terms.{place-in-row, term-in-symbol}
use Rattle.trellis.specs.Scale.{Scale}
use Rattle.trellis.specs.Trellis.{walk_score}
use Rattle.trellis.specs.Search.{search, ceiling}
use Rattle.trellis.specs.Terms.{place_in, metric, header}
use Rattle.trellis.proofs.Alike.{Follows, Same, SamePass, reach, sum_alike, pass-alike, search-alike, ceiling-alike}

-- the five terms of a metric are among the 260 of its symbol
pub term-within : (bins symbol v j n : ℕ) → 0 < bins → bins ≤ 48 → symbol < n → j < 5 → term_at symbol j (place_in bins symbol v + j - 2) < 260 * n
term-within bins symbol v j n some most h l =
    let p : place_in bins symbol v + j - 2 < 52 = place-in-row bins (hop_of bins symbol) v j some most l in
    omega (arith, term-in-symbol symbol j (place_in bins symbol v + j - 2) l p)

-- so those that a header's register earns by are among the header's
pub step-within : (mode kind j r i : ℕ) → j < header_bits kind → i < 5
    → term_at (slot_of (header_bits kind) j) i (place_in (format_of mode).bins (slot_of (header_bits kind) j) (label_of r) + i - 2) < 260 * header_bits kind
step-within mode kind j r i h l =
    let (least, most) = some-bins mode in
    term-within (format_of mode).bins (slot_of (header_bits kind) j) (label_of r) i (header_bits kind) (omega arith) most (slot-within (header_bits kind) j h) l

module _ {A B : Type 0} {S : Scale A} {Z : Scale B} {R W : ℕ → A → B → Type 0} {cap : ℕ} (F : Follows S Z R W cap) (n M : ℕ)
    (t : ℕ → A) (u : ℕ → B) (alike : (i : ℕ) → i < 260 * n → W M (t i) (u i)) where
  pub metric-alike : 5 * M ≤ cap → (bins : ℕ) → 0 < bins → bins ≤ 48 → (symbol v : ℕ) → symbol < n
      → R (5 * M) (metric S bins t symbol v) (metric Z bins u symbol v)
  unfolding metric_of
  metric-alike room bins some most symbol v h =
      sum_alike F M _ _ 5 (λ j l. alike _ (term-within bins symbol v j n some most h l)) room

reach-three : (D : ℕ) → reach D 3 ≡ 14 * D
unfolding reach
reach-three D = omega arith

module _ {A B : Type 0} {S : Scale A} {Z : Scale B} {R W : ℕ → A → B → Type 0} {cap : ℕ} (F : Follows S Z R W cap) (mode kind M : ℕ)
    (t : ℕ → A) (u : ℕ → B) (alike : (i : ℕ) → i < 260 * header_bits kind → W M (t i) (u i)) (room : 4480 * M ≤ cap) where
  earn-alike : (j r : ℕ) → j < header_bits kind → R (5 * M) ((header S mode kind t).earn j r) ((header Z mode kind u).earn j r)
  earn-alike j r h =
      let (least, most) = some-bins mode in
      metric-alike F (header_bits kind) M t u alike (omega arith) (format_of mode).bins (omega arith) most (slot_of (header_bits kind) j)
      (label_of r) (slot-within (header_bits kind) j h)

  -- no size of the three passes is above 14 passes' worth of metrics, at most 64 of 5 terms each
  header-room : reach (header_bits kind * (5 * M)) 3 ≤ cap
  header-room = rw reach-three (le_trans (down (header_bits kind) (header-most kind)) room)
    where
      down : (h : ℕ) → h ≤ 64 → 14 * (h * (5 * M)) ≤ 4480 * M
      down h l = omega (arith, mul-le-mul_right (5 * M) l)

  pub header-pass : (k : ℕ) → k ≤ 2 → SamePass (R cap) (header S mode kind t) (header Z mode kind u) k
  header-pass = pass-alike F 16384 (header_bits kind) (5 * M) refl (lit< tt) _ _ (λ j r h l. earn-alike j r h) header-room

  pub header-alike : Same (R cap) (search (header S mode kind t)) (search (header Z mode kind u))
  header-alike = search-alike F 16384 (header_bits kind) (5 * M) refl (lit< tt) _ _ (λ j r h l. earn-alike j r h) header-room

  pub header-ceiling : R cap (ceiling (header S mode kind t)) (ceiling (header Z mode kind u))
  header-ceiling = ceiling-alike F 16384 (header_bits kind) (5 * M) refl (lit< tt) _ _ (λ j r h l. earn-alike j r h) header-room

  -- and a walk earns the same, added from the left
  pub walk-alike : (p w : ℕ) → R cap (walk_score (header S mode kind t) p w) (walk_score (header Z mode kind u) p w)
  walk-alike p w =
      let room_for = few (header_bits kind) (header-most kind) in
      F.wider room_for (sum_alike F (5 * M) _ _ (header_bits kind) (λ j h. F.term (earn-alike j _ h)) room_for)
    where
      few : (h : ℕ) → h ≤ 64 → h * (5 * M) ≤ cap
      few h l = omega (arith, mul-le-mul_right (5 * M) l)
