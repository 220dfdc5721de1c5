-- `labels::row` meets its contract: each place was made by a call at that place. Assumes nothing.
use Rattle.std.proofs.Common.{rules, arith, ◌≡◌, ℕ, ◌+◌}
use Rattle.conv.specs.Label.{label_of}
use Rattle.util.proofs.Made.{made}
use Rattle.labels.proofs.row.Goals as goal

pub returns-then-table-eq32768 : goal.returns-then-table-eq32768
returns-then-table-eq32768 c = record {
  size = c.from_fn.ensures.items.long;
  at = λ k h. made _ _ (λ (k y : ℕ). y ≡ label_of (c.args.first + k)) _ (λ k y q l e. let entry = c.requires.0 (c.args.first + k) (omega arith) in search (rules, entry)) c.from_fn.ensures.items k 0 h;
}

pub returns : goal.returns
returns c = record {
  size = c.from_fn-2.ensures.items.long;
  at = λ k h. made _ _ (λ (k y : ℕ). y ≡ label_of (c.args.first + k)) _ (λ k y q l e. search rules) c.from_fn-2.ensures.items k 0 h;
}
