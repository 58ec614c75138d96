use Rattle.std.proofs.Common.{◌≡◌, take, true}
use Rattle.std.specs.List.{list_all}
use Rattle.pc_file.specs.Limits.{is_spelled}
use Rattle.pc_file.proofs.limits.+spelling.Given as goal

abbrev pub invariant-all_spelled-loop-rule : goal.invariant-all_spelled-loop-rule
invariant-all_spelled-loop-rule l = list_all (is_spelled l.variables) (take l.rule-index l.rules) ≡ true
