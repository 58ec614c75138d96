use Rattle.std.proofs.Common.{◌≡◌, ◌++◌, take}
use Rattle.std.specs.List.{flat_map}
use Rattle.pc_file.specs.PrintedForm.{rule_line, with_feed}
use Rattle.pc_text.proofs.writer.push_rules.Given as goal

abbrev pub invariant-loop-rule : goal.invariant-loop-rule
invariant-loop-rule l = l.text ≡ l.initial.text ++ flat_map (λ rule. with_feed (rule_line l.variables rule)) (take l.rule-index l.rules)
