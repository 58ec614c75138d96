use Rattle.std.proofs.Common.{◌≡◌, length, take}
use Rattle.std.specs.Prelude.{sum_by}
use Rattle.std.specs.List.{zip}
use Rattle.pc_file.specs.PrintedRule.{printed_value}
use Rattle.pc_file.specs.PrintedSize.{counted}
use Rattle.pc_file.proofs.printed_size.row_size.Given as goal

abbrev pub invariant-loop-variable : goal.invariant-loop-variable
invariant-loop-variable l = l.size ≡ counted (sum_by (λ p. length (printed_value l.variables p.0 p.1)) (take (length l.yielded) (zip l.these l.row)))
