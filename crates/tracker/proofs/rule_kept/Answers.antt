-- `tracker::rule_kept` meets its contract: the tests as the code groups them, while a call is left and where none is. Assumes nothing.
use Rattle.std.proofs.Common.{rules, ◌≡◌, ◌*◌, ◌<◌, not, ◌&&◌, ◌||◌, leb, eqb, List, ℤ, pos, ℕ, get_or}
use Rattle.util.specs.Every.{every}
use Rattle.tracker.specs.Rule.{in_whole_blocks, count_kept, drift_kept, sums_kept, shift_kept}
use Rattle.tracker.specs.Inside.{rule_with}
use Rattle.tracker.specs.declared.Tracker.{Tracker}
use Rattle.tracker.proofs.Further.{kept-is, kept-over}
use Rattle.tracker.proofs.rule_kept.Goals as goal

-- the tests in the code's groups, while a call is left
in-groups : (mode : ℕ) (t : Tracker) (shifts : List ℤ) (top : ℕ) → t.n < 2048
    → not (eqb t.n 2048 || not (rule_with mode t shifts (leb top (2 * in_whole_blocks mode t.n))))
    ≡ count_kept mode t && (leb top (2 * in_whole_blocks mode t.n)
    && (drift_kept mode t && (sums_kept t && shift_kept t.shift) && every t.n (λ j. shift_kept (get_or shifts j (pos 0)))))
in-groups mode t shifts top h =
    kept-is t.n (count_kept mode t) (leb top (2 * in_whole_blocks mode t.n)) (drift_kept mode t) (sums_kept t) (shift_kept t.shift)
    (every t.n (λ j. shift_kept (get_or shifts j (pos 0)))) h

pub returns-then-numbers_kept : goal.returns-then-numbers_kept
returns-then-numbers_kept c =
    let a = c.args in
    let groups = in-groups a.mode a.t a.shifts.now a.top in
    search rules

pub returns-else-numbers_kept : goal.returns-else-numbers_kept
returns-else-numbers_kept c =
    let a = c.args in
    let groups = in-groups a.mode a.t a.shifts.now a.top in
    let over = kept-over a.t.n in
    search rules
