-- `burst_file::verdict::bits_of` meets its contract: each place was made by a call at that place. Assumes nothing.
use Rattle.std.proofs.Common.{rules, ◌≡◌, ℕ}
use Rattle.burst_file.specs.Verdict.{header_bit}
use Rattle.util.proofs.Made.{made}
use Rattle.burst_file.proofs.verdict.bits_of.Goals as goal

pub returns-clause-bits : goal.returns-clause-bits
unfolding header_bit
returns-clause-bits c = λ k h. made _ _ (λ (k y : ℕ). y ≡ header_bit c.args.word k) _ (λ k y q l e. search rules) c.from_fn.ensures.items k 0 h
