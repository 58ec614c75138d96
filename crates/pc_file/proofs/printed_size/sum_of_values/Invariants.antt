use Rattle.std.proofs.Common.{◌≡◌, length, take}
use Rattle.std.specs.Prelude.{sum_by}
use Rattle.pc_file.specs.PrintedRule.{printed_value}
use Rattle.pc_file.specs.PrintedSize.{counted}
use Rattle.pc_file.proofs.printed_size.sum_of_values.Given as goal

abbrev pub invariant-loop-value : goal.invariant-loop-value
invariant-loop-value l = l.size ≡ counted (sum_by (λ value. length (printed_value l.variables l.variable value)) (take l.value-index l.values))
