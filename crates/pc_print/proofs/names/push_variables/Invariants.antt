use Rattle.std.proofs.Common.{◌≡◌, ◌++◌, codes, take}
use Rattle.std.specs.List.{flat_map}
use Rattle.pc_file.specs.PrintedRule.{printed_variable}
use Rattle.pc_print.proofs.names.push_variables.Given as goal

abbrev pub invariant-loop-variable : goal.invariant-loop-variable
invariant-loop-variable l = l.text ≡ l.initial.text ++ flat_map (λ variable. codes ", " ++ printed_variable l.variables variable) (take l.variable-index l.others)
