use Rattle.std.proofs.Common.{◌≡◌, ◌≤◌, count_by, take, true, false}
use Rattle.std.specs.List.{list_all, list_any}
use Rattle.pc_file.specs.Rule.{holds}
use Rattle.pc_file.proofs.holding.+holding.Given as goal

abbrev pub invariant-all_hold-loop-rule : goal.invariant-all_hold-loop-rule
invariant-all_hold-loop-rule l = list_all (holds l.variables l.word) (take l.rule-index l.rules) ≡ true

abbrev pub invariant-any_holds-loop-rule : goal.invariant-any_holds-loop-rule
invariant-any_holds-loop-rule l = list_any (holds l.variables l.word) (take l.rule-index l.rules) ≡ false

abbrev pub invariant-count_holding-loop-rule : goal.invariant-count_holding-loop-rule
invariant-count_holding-loop-rule l = (l.count ≡ count_by (holds l.variables l.word) (take l.rule-index l.rules)) × (l.count ≤ l.rule-index)
