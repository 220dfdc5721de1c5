-- `level::marks` meets its contract: each bin's mark was made by a call at that bin. Assumes nothing.
use Rattle.std.proofs.Common.{rules, ◌≡◌, ℕ}
use Rattle.level.specs.Inside.{mark_of}
use Rattle.util.proofs.Made.{made}
use Rattle.level.proofs.marks.Goals as goal

pub returns : goal.returns
returns c =
    let has : ℕ → ℕ = λ b. mark_of c.args.e b in
    (c.from_fn.ensures.items.long, λ b h. made _ _ (λ (k y : ℕ). y ≡ has k) _ (λ k y q l e. search rules) c.from_fn.ensures.items b 0 h)
