use Rattle.std.proofs.Common.{◌≡◌, ◌++◌, codes, length, take}
use Rattle.std.specs.List.{flat_map, zip}
use Rattle.pc_file.specs.PrintedRule.{printed_value}
use Rattle.pc_print.proofs.names.push_more_of_row.Given as goal

abbrev pub invariant-loop-variable : goal.invariant-loop-variable
invariant-loop-variable l = l.text ≡ l.initial.text ++ flat_map (λ p. codes " " ++ printed_value l.variables p.0 p.1) (take (length l.yielded) (zip l.these l.row))
