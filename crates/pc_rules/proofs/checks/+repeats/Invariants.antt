use Rattle.std.proofs.Common.{◌≡◌, take, false}
use Rattle.std.specs.List.{list_any}
use Rattle.pc_rules.specs.RuleFaults.{has_repeat}
use Rattle.pc_rules.proofs.checks.+repeats.Given as goal

abbrev pub invariant-some_has_repeat-loop-rule : goal.invariant-some_has_repeat-loop-rule
invariant-some_has_repeat-loop-rule l = list_any has_repeat (take l.rule-index l.rules) ≡ false
