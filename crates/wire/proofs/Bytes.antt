-- Numbers in bytes: how many there are, two numbers side by side, and a number read back. Assumes nothing.
use Prim.Native.Nat.{ℕ, zero, suc, ◌+◌, ◌*◌, ◌/◌, ◌%◌, ◌^◌, ◌<◌}
use mathlib.Core.List.{List, [], ◌∷◌, ◌++◌, append_assoc, append-nil}
use mathlib.Core.Path.{◌≡◌, refl, sym, ap, ap₂, ◌∙◌}
use native.Mathlib.Nat.{add-suc, add-zero, mul_assoc, pow-suc, le_refl}
use native.Mathlib.Numerals.{add-one}
use native.Mathlib.Omega.{arith}
use lib.ListN.{length, get_or, take, drop, length-append, get_or-append}
use lib.Seq.{get_or-take, get_or-drop, get_or_at}
use Rattle.wire.specs.Bytes.{big, high_first, number_at}

pub length-big : (k x : ℕ) → length (big k x) ≡ k
unfolding big
length-big zero x = refl
length-big (suc k) x = length-append (big k (x / 256)) (x % 256 ∷ []) ∙ ap (λ (n : ℕ). n + 1) (length-big k (x / 256)) ∙ omega arith

-- two numbers side by side are one
pub big_both : (j k x y : ℕ) → y < 256 ^ k → big (j + k) (x * 256 ^ k + y) ≡ big j x ++ big k y
unfolding big
big_both j zero x y h =
    let none : x * 256 ^ 0 + y ≡ x = omega arith in
    ap₂ big (add-zero j) none ∙ sym (append-nil (big j x))
big_both j (suc k) x y h =
    let one : 256 ^ suc k ≡ 256 ^ k * 256 = pow-suc 256 k in
    let up : x * 256 ^ suc k ≡ x * 256 ^ k * 256 = ap (λ (n : ℕ). x * n) one ∙ sym (mul_assoc x (256 ^ k) 256) in
    let less : y / 256 < 256 ^ k = omega arith in
    let rest : (x * 256 ^ suc k + y) / 256 ≡ x * 256 ^ k + y / 256 = omega arith in
    let last : (x * 256 ^ suc k + y) % 256 ≡ y % 256 = omega arith in
    ap (λ (n : ℕ). big n (x * 256 ^ suc k + y)) (add-suc j k)
    ∙ ap₂ (λ (r l : ℕ). big (j + k) r ++ (l ∷ [])) rest last
    ∙ ap (λ (b : List ℕ). b ++ (y % 256 ∷ [])) (big_both j k x (y / 256) less)
    ∙ append_assoc (big j x) (big k (y / 256)) (y % 256 ∷ [])

-- one digit more
pub digit-more : (base : ℕ) (f : ℕ → ℕ) (at k s d : ℕ) → s ≡ high_first base f at k → d ≡ f (at + k) → base * s + d ≡ high_first base f at (k + 1)
unfolding high_first
digit-more base f at k s d e g = ap₂ (λ (x y : ℕ). base * x + y) e g ∙ ap (high_first base f at) (sym (add-one k))

-- the same digits make the same number
pub same_digits : (base : ℕ) (f g : ℕ → ℕ) (at to n : ℕ) → ((i : ℕ) → i < n → f (at + i) ≡ g (to + i))
    → high_first base f at n ≡ high_first base g to n
unfolding high_first
same_digits base f g at to zero e = refl
same_digits base f g at to (suc n) e =
    ap₂ (λ (s d : ℕ). base * s + d) (same_digits base f g at to n (λ i h. e i (omega arith))) (e n (le_refl (suc n)))

-- k bytes of a number that they hold are read back as it
whole : (k x : ℕ) → x < 256 ^ k → number_at (big k x) 0 k ≡ x
unfolding big high_first
whole zero x h = omega arith
whole (suc k) x h =
    let one : 256 ^ suc k ≡ 256 ^ k * 256 = pow-suc 256 k in
    let less : x / 256 < 256 ^ k = omega arith in
    let front = big k (x / 256) in
    let long : length front ≡ k = length-big k (x / 256) in
    ap₂ (λ (s d : ℕ). 256 * s + d)
    (same_digits 256 (λ i. get_or (front ++ (x % 256 ∷ [])) i 0) (λ i. get_or front i 0) 0 0 k
    (λ i l. get_or-append front (x % 256 ∷ []) 0 (0 + i) (omega (arith, long)))
    ∙ whole k (x / 256) less)
    (get_or_at front (x % 256) [] 0 (0 + k) (long ∙ omega arith))
    ∙ omega arith

-- so they are, wherever they stand in a list
pub read_back : (bytes : List ℕ) (at k x : ℕ) → take k (drop at bytes) ≡ big k x → x < 256 ^ k → number_at bytes at k ≡ x
read_back bytes at k x e h =
    same_digits 256 (λ i. get_or bytes i 0) (λ i. get_or (big k x) i 0) at 0 k
    (λ i l.
    sym (get_or-drop at bytes i 0)
    ∙ sym (get_or-take k (drop at bytes) i 0 l)
    ∙ ap (λ (b : List ℕ). get_or b i 0) e
    ∙ ap (λ (n : ℕ). get_or (big k x) n 0) (omega arith))
    ∙ whole k x h
