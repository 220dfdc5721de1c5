-- The ★ entries on a header sent: labels compute, the state of 48 ones stays at all ones, and the lent list may hold anything before.
-- Assumes nothing.
use Rattle.std.proofs.Common.{◌≡◌, ℕ, zero, suc, ◌%◌, ◌<◌, ◌≤◌, List, [], ◌∷◌, ◌++◌, length, get_or, replicate, sym, refl, ◌∙◌, ap₂, arith, le-leb}
use lib.Count.{ones_in}
use lib.ListN.{get_or-replicate}
use Rattle.util.specs.Factor.{greatest, gcd_of, coprime}
use Rattle.util.specs.Multiplier.{start_of, pairs, suits, first_of, mult_of}
use Rattle.frame.specs.Format.{named}
use Rattle.frame.specs.Air.{slot_of}
use Rattle.util.specs.Some.{some_of}
use Rattle.frame.proofs.Air.{slot-within}
use Rattle.conv.specs.Label.{label_of}
use Rattle.conv.specs.Encoder.{register, state, made}
use Rattle.conv.specs.Sent.{bits_of, step_label, labels, sent_values}
use Rattle.conv.proofs.Linear.{computed, label-computed}
use Rattle.conv.proofs.Slots.{labels_at, labels-only}

pub register-labels : (label_of 0 ≡ 0) × (label_of 1 ≡ 31) × (label_of 2 ≡ 26) × (label_of 3 ≡ 5) × (label_of 16384 ≡ 31)
    × (label_of 16385 ≡ 0) × (label_of 32767 ≡ 10)
unfolding computed ones_in
register-labels = (label-computed 0, label-computed 1, label-computed 2, label-computed 3, label-computed 16384, label-computed 16385, label-computed 32767)

-- 48 ones
abbrev ones : List ℕ
ones = replicate 48 1

-- keep the state at all ones
ones-state : (j : ℕ) → j ≤ 48 → state 16384 16383 (bits_of ones) j ≡ 16383
unfolding state
ones-state zero h = refl
ones-state (suc j) h =
    ap₂ (λ (p b : ℕ). register p b % 16384) (ones-state j (omega arith)) (get_or-replicate 48 j 1 0 (omega arith))

ones-label : (j : ℕ) → j < 48 → step_label (bits_of ones) 48 j ≡ 10
unfolding step_label made
ones-label j h =
    ap₂ (λ (p b : ℕ). label_of (register p b)) (ones-state j (omega arith)) (get_or-replicate 48 j 1 0 (omega arith)) ∙ register-labels.6

pub ones-sent : (mode : ℕ) → mode < 2 → (values : List ℕ) → length values ≡ 48 → sent_values mode 0 (replicate 48 1) values ≡ replicate 48 10
unfolding named
ones-sent mode m values e =
    simp (e, le-leb mode 1 (omega arith))
    (sym (labels-only 48 (bits_of ones) (replicate 48 10) refl
    (λ j h. get_or-replicate 48 (slot_of 48 j) 10 0 (slot-within 48 j h) ∙ sym (ones-label j h))))

-- 48 bits, only the last set
abbrev last : List ℕ
last = replicate 47 0 ++ 1 ∷ []

last-labels : (get_or (labels 48 (bits_of last)) 0 0 ≡ 26) × (get_or (labels 48 (bits_of last)) 17 0 ≡ 31)
unfolding step_label made state slot_of mult_of start_of pairs suits first_of coprime gcd_of greatest
last-labels = (labels_at 48 (bits_of last) 0 (omega arith) ∙ register-labels.2, labels_at 48 (bits_of last) 47 (omega arith) ∙ register-labels.1)

pub last-sent : (mode : ℕ) → mode < 2 → (values : List ℕ) → length values ≡ 48
    → (get_or (sent_values mode 0 (replicate 47 0 ++ 1 ∷ []) values) 0 0 ≡ 26) × (get_or (sent_values mode 0 (replicate 47 0 ++ 1 ∷ []) values) 17 0 ≡ 31)
unfolding named
last-sent mode m values e =
    let known = le-leb mode 1 (omega arith) in
    (simp (e, known) last-labels.0, simp (e, known) last-labels.1)
