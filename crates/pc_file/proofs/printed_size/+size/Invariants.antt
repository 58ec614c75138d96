use Rattle.std.proofs.Common.{◌≡◌, length, take}
use Rattle.std.specs.Prelude.{sum_by}
use Rattle.pc_file.specs.PrintedRule.{printed_in_place}
use Rattle.pc_file.specs.PrintedSize.{counted}
use Rattle.pc_file.proofs.printed_size.+size.Given as goal

abbrev pub invariant-members_size-loop-rule : goal.invariant-members_size-loop-rule
invariant-members_size-loop-rule l = l.size ≡ counted (sum_by (λ rule. length (printed_in_place l.asked l.variables rule)) (take l.rule-index l.rules))
