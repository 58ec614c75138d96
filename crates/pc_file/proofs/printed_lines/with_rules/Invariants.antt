use Rattle.std.proofs.Common.{◌≡◌, map, take, Some}
use Rattle.pc_file.specs.PrintedForm.{rule_line}
use Rattle.pc_file.specs.PrintedSize.{with_lines}
use Rattle.pc_file.proofs.printed_lines.with_rules.Given as goal

abbrev pub invariant-loop-rule : goal.invariant-loop-rule
invariant-loop-rule l = with_lines l.initial.bytes (map (rule_line l.variables) (take l.rule-index l.rules)) ≡ Some l.bytes
