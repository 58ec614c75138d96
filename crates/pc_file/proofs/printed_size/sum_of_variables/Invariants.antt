use Rattle.std.proofs.Common.{◌≡◌, length, take}
use Rattle.std.specs.Prelude.{sum_by}
use Rattle.pc_file.specs.PrintedRule.{printed_variable}
use Rattle.pc_file.specs.PrintedSize.{counted}
use Rattle.pc_file.proofs.printed_size.sum_of_variables.Given as goal

abbrev pub invariant-loop-variable : goal.invariant-loop-variable
invariant-loop-variable l = l.size ≡ counted (sum_by (λ variable. length (printed_variable l.variables variable)) (take l.variable-index l.these))
