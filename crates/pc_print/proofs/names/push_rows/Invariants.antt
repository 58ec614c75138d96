use Rattle.std.proofs.Common.{◌≡◌, ◌++◌, codes, take}
use Rattle.std.specs.List.{flat_map}
use Rattle.pc_file.specs.PrintedRule.{printed_row}
use Rattle.pc_print.proofs.names.push_rows.Given as goal

abbrev pub invariant-loop-row : goal.invariant-loop-row
invariant-loop-row l = l.text ≡ l.initial.text ++ flat_map (λ row. codes ", " ++ printed_row l.variables l.these row) (take l.row-index l.others)
