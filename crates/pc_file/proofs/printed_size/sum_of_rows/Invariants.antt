use Rattle.std.proofs.Common.{◌≡◌, length, take}
use Rattle.std.specs.Prelude.{sum_by}
use Rattle.pc_file.specs.PrintedRule.{printed_row}
use Rattle.pc_file.specs.PrintedSize.{counted}
use Rattle.pc_file.proofs.printed_size.sum_of_rows.Given as goal

abbrev pub invariant-loop-row : goal.invariant-loop-row
invariant-loop-row l = l.size ≡ counted (sum_by (λ row. length (printed_row l.variables l.these row)) (take l.row-index l.rows))
