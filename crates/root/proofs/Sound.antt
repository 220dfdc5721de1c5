-- When a value of f32 is the nearest to √n: M/2^j is, where M is the whole number nearest √(n·4^j) and not less than 2^23. It is a law of any
-- n, M, j and x; nothing is computed here. Assumes nothing.
use Prim.Native.Nat.{ℕ, zero, suc, ◌+◌, ◌*◌, ◌-◌, ◌%◌, ◌^◌, ◌≤◌, ◌<◌}
use mathlib.Core.Bool.{Bool, true, false, ◌&&◌, ◌||◌}
use mathlib.Core.Logic.{◌⊎◌, inl, inr}
use mathlib.Core.Path.{◌≡◌, refl, sym, ap, ap₂, subst, subst₂, ◌∙◌}
use native.Mathlib.Nat.{le_trans, le_of_eq, le_of_lt, lt_of_lt_of_le, lt_of_le_of_lt, pow-suc}
use native.Mathlib.Nat.{zero-mul, mul-one, mul_assoc, mul_right_comm, mul-pos, mul-le-mul, mul-le-mul_left, mul-le-mul_right}
use native.Mathlib.Nat.{mul-lt-mul_of_pos_right, lt_of_mul-lt-mul_right, mul-mul-mul_comm}
use native.Mathlib.Omega.{arith}
use lib.Dec.{T, eqb, leb, ltb, eqb→eq, leb→le, ltb→lt, lit<}
use lib.IntN.{ℤ, pos, negsuc}
use lib.Pow.{pow_pos, pow-add, pow_mono}
use lib.Ieee.{Float, nan, inf, fin, binary32, emax, low, up, down, lt, le, fits}
use lib.Ieee.Digits.{back}
use lib.Ieee.Fits.{down_pos, and_l, and_r}
use lib.Ieee.Scale.{finite}
use lib.Ieee.Positive.{num, den, positive, den_pos}
use Rattle.ieee.specs.Whole.{plus_zero}
use Rattle.ieee.specs.Size.{Grid}
use Rattle.ieee.proofs.Integers.{by-test}
use Rattle.ieee.proofs.Order.{positive-num}
use Rattle.root.specs.Root.{both, NearestRoot}

-- x is M units of 2^-j, and M is the whole number nearest √t, t being n·4^j: M - 1/2 < √t < M + 1/2, here doubled and squared.
-- From 2^23 units on the values of f32 are whole numbers of units, and below that they lie closer: so where M is 2^23, √t has to be M itself.
pub record Rounded (n M j : ℕ) (x : Float) : Type 0 where
  pub held : T (fits binary32 x)
  pub above : T (positive x)
  pub value : num x * 2 ^ j ≡ M * den x
  pub least : 2 ^ 23 ≤ M
  pub edge : (2 ^ 23 < M) ⊎ (M * M ≡ n * 4 ^ j)
  pub under : (2 * M - 1) * (2 * M - 1) < 4 * (n * 4 ^ j)
  pub over : 4 * (n * 4 ^ j) < (2 * M + 1) * (2 * M + 1)

-- ---- a value of f32 from 2^23 units on is a whole number of units
digits-few : (s : Bool) (m : ℕ) (e : ℤ) → T (fits binary32 (fin s m e)) → m < 2 ^ 24
unfolding fits
digits-few s zero e t = lit< tt
digits-few s (suc m) e t =
    let A = eqb (suc m % 2) 1 in
    let B = ltb (suc m) (2 ^ 24) in
    let C = leb (down e) (2 ^ low binary32) in
    let D = ltb (suc m * up e) (2 ^ suc (emax binary32) * down e) in
    ltb→lt (suc m) (2 ^ 24) (and_r A B (and_l (A && B) C (and_l (A && B && C) D t)))

-- the exponent: m·2^j holds 2^23 times 2^(k+1), and m only 2^24
far-enough : (m j k : ℕ) → m < 2 ^ 24 → 2 ^ 23 * 2 ^ suc k ≤ m * 2 ^ j → suc k ≤ j
far-enough m j k l h = by-test j (suc k) (λ (b : j < suc k). absurd (no b)) (λ (b : suc k ≤ j). b)
  where
    no : j < suc k → ⊥
    no b =
        let a : m * 2 ^ j < 2 ^ 24 * 2 ^ j = mul-lt-mul_of_pos_right l (pow_pos j) in
        let c : 2 ^ j ≤ 2 ^ k = pow_mono (omega arith) in
        let d : 2 ^ suc k ≡ 2 ^ k * 2 = pow-suc 2 k in
        omega (arith, a, c, d, h)

pub in-units : (y : Float) (j : ℕ) → T (fits binary32 y) → T (finite y) → 2 ^ 23 * den y ≤ num y * 2 ^ j → Grid j y
in-units nan j t p h = absurd p
in-units (inf s) j t p h = absurd p
in-units (fin s m (pos k)) j t p h = record { finite = tt; count = m * 2 ^ k * 2 ^ j; size = sym (mul-one (m * 2 ^ k * 2 ^ j)) }
in-units (fin s m (negsuc k)) j t p h =
    let l : suc k ≤ j = far-enough m j k (digits-few s m (negsuc k) t) (subst (λ (z : ℕ). 2 ^ 23 * 2 ^ suc k ≤ z * 2 ^ j) (mul-one m) h) in
    record {
      finite = tt;
      count = m * 2 ^ (j - suc k);
      size = ap₂ ◌*◌ (mul-one m) (ap (λ (z : ℕ). 2 ^ z) (sym (back j (suc k) l)) ∙ pow-add 2 (j - suc k) (suc k))
          ∙ sym (mul_assoc m (2 ^ (j - suc k)) (2 ^ suc k));
    }

-- ---- the order as one of fractions
lt→cross : (x y : Float) → T (positive x) → T (finite y) → T (lt x y) → num x * den y < num y * den x
unfolding lt
lt→cross nan y p q h = absurd p
lt→cross (inf s) y p q h = absurd p
lt→cross (fin true m e) y p q h = absurd p
lt→cross (fin false m e) nan p q h = absurd q
lt→cross (fin false m e) (inf t) p q h = absurd q
lt→cross (fin false m e) (fin true n d) p q h = absurd h
lt→cross (fin false m e) (fin false n d) p q h = ltb→lt (m * up e * down d) (n * up d * down e) h

-- what is negative and not less than 0.0 is -0.0
no_size : (m : ℕ) (e : ℤ) → T (le plus_zero (fin true m e)) → m * up e ≡ 0
unfolding le
no_size m e h =
    let z : 0 * 1 * down e ≡ m * up e * 1 = eqb→eq (0 * 1 * down e) (m * up e * 1)
    (and_l (eqb (0 * 1 * down e) (m * up e * 1)) (eqb (0 * 1 * down e) 0) h) in
    omega (arith, z)

gt→cross : (x y : Float) → T (positive x) → T (finite y) → T (le plus_zero y) → T (lt y x) → num y * den x < num x * den y
unfolding lt
gt→cross nan y p q z h = absurd p
gt→cross (inf s) y p q z h = absurd p
gt→cross (fin true m e) y p q z h = absurd p
gt→cross (fin false m e) nan p q z h = absurd q
gt→cross (fin false m e) (inf t) p q z h = absurd q
gt→cross (fin false m e) (fin true n d) p q z h =
    subst (λ (k : ℕ). k * down e < m * up e * down d) (sym (no_size n d z))
    (subst (λ (k : ℕ). k < m * up e * down d) (sym (zero-mul (down e))) (mul-pos (positive-num (fin false m e) p) (down_pos d)))
gt→cross (fin false m e) (fin false n d) p q z h = ltb→lt (n * up d * down e) (m * up e * down d) h

-- ---- the values beside x, counted in units: a is x's fraction's upper part and c its lower, b and d are y's
more-than : (a c b d J M : ℕ) → 0 < J → a * J ≡ M * c → a * d < b * c → M * d < b * J
more-than a c b d J M p e h =
    lt_of_mul-lt-mul_right c
    (subst₂ ◌<◌ (mul_right_comm a d J ∙ ap (λ (z : ℕ). z * d) e ∙ mul_right_comm M c d) (mul_right_comm b c J) (mul-lt-mul_of_pos_right h p))

less-than : (a c b d J M : ℕ) → 0 < J → a * J ≡ M * c → b * c < a * d → b * J < M * d
less-than a c b d J M p e h =
    lt_of_mul-lt-mul_right c
    (subst₂ ◌<◌ (mul_right_comm b c J) (mul_right_comm a d J ∙ ap (λ (z : ℕ). z * d) e ∙ mul_right_comm M c d) (mul-lt-mul_of_pos_right h p))

module _ (n M j : ℕ) (x : Float) (r : Rounded n M j x) (y : Float) (t : T (fits binary32 y)) (f : T (finite y)) where
  next-above : T (lt x y) → (M + 1) * den y ≤ num y * 2 ^ j
  next-above h =
      let l : M * den y < num y * 2 ^ j = more-than (num x) (den x) (num y) (den y) (2 ^ j) M (pow_pos j) r.value
      (lt→cross x y r.above f h) in
      let g = in-units y j t f (le_trans (mul-le-mul_right (den y) r.least) (le_of_lt l)) in
      let q : M < g.count = lt_of_mul-lt-mul_right (den y) (subst (λ (z : ℕ). M * den y < z) g.size l) in
      le_trans (mul-le-mul_right (den y) (one_more M g.count q)) (le_of_eq (sym g.size))
    where
      one_more : (a b : ℕ) → a < b → a + 1 ≤ b
      one_more a b h = omega arith

  next-below : T (le plus_zero y) → T (lt y x) → (num y * 2 ^ j + den y ≤ M * den y) ⊎ ((num y * 2 ^ j < M * den y) × (M * M ≡ n * 4 ^ j))
  next-below z h =
      let l : num y * 2 ^ j < M * den y = less-than (num x) (den x) (num y) (den y) (2 ^ j) M (pow_pos j) r.value
      (gt→cross x y r.above f z h) in
      by-test (num y * 2 ^ j) (2 ^ 23 * den y)
      (λ (b : num y * 2 ^ j < 2 ^ 23 * den y).
      elim r.edge [
        | inl e ↦ inl (le_trans (room (num y * 2 ^ j) (2 ^ 23) (den y) (le_of_lt b)) (mul-le-mul_right (den y) e))
        | inr e ↦ inr (l, e)
      ])
      (λ (b : 2 ^ 23 * den y ≤ num y * 2 ^ j).
      let g = in-units y j t f b in
      let q : g.count < M = lt_of_mul-lt-mul_right (den y) (subst (λ (z : ℕ). z < M * den y) g.size l) in
      inl (le_trans (room (num y * 2 ^ j) g.count (den y) (le_of_eq g.size)) (mul-le-mul_right (den y) q)))
    where
      room : (a b d : ℕ) → a ≤ b * d → a + d ≤ suc b * d
      room a b d h = omega (arith, h)

-- ---- squares: s is `both x y`, D is the two lower parts' product, J is 2^j and P is s in units
four_is : (j : ℕ) → 4 ^ j ≡ 2 ^ j * 2 ^ j
four_is zero = refl
four_is (suc j) = pow-suc 4 j ∙ ap (λ (z : ℕ). z * 4) (four_is j) ∙ mul-mul-mul_comm (2 ^ j) (2 ^ j) 2 2 ∙ sym (ap₂ ◌*◌ (pow-suc 2 j) (pow-suc 2 j))

in_all : (a c b d J M : ℕ) → a * J ≡ M * c → (a * d + b * c) * J ≡ M * (c * d) + b * J * c
in_all a c b d J M e = omega (arith, ap (λ (z : ℕ). z * d) e)

four-out : (n j D : ℕ) → 4 * (n * 4 ^ j) * (D * D) ≡ 4 * n * (D * D) * (2 ^ j * 2 ^ j)
four-out n j D =
    ap (λ (z : ℕ). z * (D * D)) (sym (mul_assoc 4 n (4 ^ j)) ∙ ap (λ (z : ℕ). 4 * n * z) (four_is j)) ∙ mul_right_comm (4 * n) (2 ^ j * 2 ^ j) (D * D)

square_le : (a b : ℕ) → a ≤ b → a * a ≤ b * b
square_le a b h = mul-le-mul h h

square-lt : (a b : ℕ) → a < b → a * a < b * b
square-lt a b h = lt_of_le_of_lt (mul-le-mul_left a (le_of_lt h)) (mul-lt-mul_of_pos_right h (omega arith))

module _ (n j s D P : ℕ) (e : s * 2 ^ j ≡ P) where
  square-in : P * P ≡ s * s * (2 ^ j * 2 ^ j)
  square-in = sym (ap₂ ◌*◌ e e) ∙ mul-mul-mul_comm s (2 ^ j) s (2 ^ j)

  under-root : P * P < 4 * (n * 4 ^ j) * (D * D) → s * s < 4 * n * (D * D)
  under-root h = lt_of_mul-lt-mul_right (2 ^ j * 2 ^ j) (subst₂ ◌<◌ square-in (four-out n j D) h)

  over_root : 4 * (n * 4 ^ j) * (D * D) < P * P → 4 * n * (D * D) < s * s
  over_root h = lt_of_mul-lt-mul_right (2 ^ j * 2 ^ j) (subst₂ ◌<◌ (four-out n j D) square-in h)

-- at most half a unit below, or less than M itself where √t is M; at least half a unit above
module _ (t M D P : ℕ) (p : 0 < D) where
  half-below : 0 < M → (2 * M - 1) * (2 * M - 1) < 4 * t → P + D ≤ 2 * M * D → P * P < 4 * t * (D * D)
  half-below m u h =
      lt_of_le_of_lt (square_le P ((2 * M - 1) * D) (one-off P D (2 * M - 1) (2 * M) (omega arith) h))
      (subst (λ (z : ℕ). z < 4 * t * (D * D)) (mul-mul-mul_comm (2 * M - 1) (2 * M - 1) D D) (mul-lt-mul_of_pos_right u (mul-pos p p)))
    where
      one-off : (P D k l : ℕ) → l ≡ k + 1 → P + D ≤ l * D → P ≤ k * D
      one-off P D k l e h = omega (arith, h, ap (λ (z : ℕ). z * D) e)

  itself-below : M * M ≡ t → P < 2 * M * D → P * P < 4 * t * (D * D)
  itself-below e h =
      subst (λ (z : ℕ). P * P < z)
      (mul-mul-mul_comm (2 * M) D (2 * M) D ∙ ap (λ (z : ℕ). z * (D * D)) (mul-mul-mul_comm 2 M 2 M ∙ ap (λ (z : ℕ). 4 * z) e))
      (square-lt P (2 * M * D) h)

  half-above : 4 * t < (2 * M + 1) * (2 * M + 1) → (2 * M + 1) * D ≤ P → 4 * t * (D * D) < P * P
  half-above o h =
      lt_of_lt_of_le
      (subst (λ (z : ℕ). 4 * t * (D * D) < z) (mul-mul-mul_comm (2 * M + 1) (2 * M + 1) D D) (mul-lt-mul_of_pos_right o (mul-pos p p)))
      (square_le ((2 * M + 1) * D) P h)

-- ---- the law
pub nearest-of : (n M j : ℕ) (x : Float) → Rounded n M j x → NearestRoot n x
nearest-of n M j x r =
    record {
      held = r.held;
      above = r.above;
      lesser = λ y t f z h.
          let B = num y * 2 ^ j in
          let D = den x * den y in
          let P = M * (den x * den y) + B * den x in
          let e = in_all (num x) (den x) (num y) (den y) (2 ^ j) M r.value in
          let p = mul-pos (den_pos x) (den_pos y) in
          under-root n j (both x y) D P e
          (elim (next-below n M j x r y t f z h) [
            | inl l ↦ half-below (n * 4 ^ j) M D P p (omega (arith, r.least)) r.under (add-below M (den x) (den y) B l)
            | inr l ↦ itself-below (n * 4 ^ j) M D P p l.1 (add-less M (den x) (den y) B (den_pos x) l.0)
          ]);
      greater = λ y t f h.
          let B = num y * 2 ^ j in
          let D = den x * den y in
          let P = M * (den x * den y) + B * den x in
          over_root n j (both x y) D P (in_all (num x) (den x) (num y) (den y) (2 ^ j) M r.value)
          (half-above (n * 4 ^ j) M D P (mul-pos (den_pos x) (den_pos y)) r.over (add-above M (den x) (den y) B (next-above n M j x r y t f h)));
    }
  where
    add-below : (M c d B : ℕ) → B + d ≤ M * d → M * (c * d) + B * c + c * d ≤ 2 * M * (c * d)
    add-below M c d B h = omega (arith, mul-le-mul_right c h)

    add-less : (M c d B : ℕ) → 0 < c → B < M * d → M * (c * d) + B * c < 2 * M * (c * d)
    add-less M c d B p h = omega (arith, mul-lt-mul_of_pos_right h p)

    add-above : (M c d B : ℕ) → (M + 1) * d ≤ B → (2 * M + 1) * (c * d) ≤ M * (c * d) + B * c
    add-above M c d B h = omega (arith, mul-le-mul_right c h)

-- ---- all of it as one test, for what is computed
abbrev pub rounds : ℕ → ℕ → ℕ → Float → Bool
rounds n M j x =
    fits binary32 x
    && (positive x
    && (eqb (num x * 2 ^ j) (M * den x)
    && (leb (2 ^ 23) M
    && ((ltb (2 ^ 23) M || eqb (M * M) (n * 4 ^ j))
    && (ltb ((2 * M - 1) * (2 * M - 1)) (4 * (n * 4 ^ j)) && ltb (4 * (n * 4 ^ j)) ((2 * M + 1) * (2 * M + 1)))))))

pub rounded : (n M j : ℕ) (x : Float) → T (rounds n M j x) → Rounded n M j x
rounded n M j x h =
    let t = n * 4 ^ j in
    let A = fits binary32 x in
    let B = positive x in
    let C = eqb (num x * 2 ^ j) (M * den x) in
    let D = leb (2 ^ 23) M in
    let E = ltb (2 ^ 23) M || eqb (M * M) t in
    let F = ltb ((2 * M - 1) * (2 * M - 1)) (4 * t) in
    let G = ltb (4 * t) ((2 * M + 1) * (2 * M + 1)) in
    let b = and_r A (B && (C && (D && (E && (F && G))))) h in
    let c = and_r B (C && (D && (E && (F && G)))) b in
    let d = and_r C (D && (E && (F && G))) c in
    let e = and_r D (E && (F && G)) d in
    let g = and_r E (F && G) e in
    record {
      held = and_l A (B && (C && (D && (E && (F && G))))) h;
      above = and_l B (C && (D && (E && (F && G)))) b;
      value = eqb→eq (num x * 2 ^ j) (M * den x) (and_l C (D && (E && (F && G))) c);
      least = leb→le (2 ^ 23) M (and_l D (E && (F && G)) d);
      edge = either (ltb (2 ^ 23) M) (ltb→lt (2 ^ 23) M) (and_l E (F && G) e);
      under = ltb→lt ((2 * M - 1) * (2 * M - 1)) (4 * t) (and_l F G g);
      over = ltb→lt (4 * t) ((2 * M + 1) * (2 * M + 1)) (and_r F G g);
    }
  where
    either : (b : Bool) → (T b → 2 ^ 23 < M) → T (b || eqb (M * M) (n * 4 ^ j)) → (2 ^ 23 < M) ⊎ (M * M ≡ n * 4 ^ j)
    either true f h = inl (f tt)
    either false f h = inr (eqb→eq (M * M) (n * 4 ^ j) h)
