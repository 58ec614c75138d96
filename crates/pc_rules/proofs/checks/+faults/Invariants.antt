use Rattle.std.proofs.Common.{◌≡◌, take, false}
use Rattle.std.specs.List.{list_any}
use Rattle.pc_rules.specs.RuleFaults.{has_fault}
use Rattle.pc_rules.proofs.checks.+faults.Given as goal

abbrev pub invariant-some_has_fault-loop-phrase : goal.invariant-some_has_fault-loop-phrase
invariant-some_has_fault-loop-phrase l = list_any (has_fault l.fault) (take l.phrase-index l.phrases) ≡ false
